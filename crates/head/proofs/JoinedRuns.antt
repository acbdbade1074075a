-- A snapshot with blocks that are joined.
use Rattle.std.proofs.Common.{◌≡◌, ◌≤◌, ◌<◌, ℕ, ℤ, ◌+◌, ◌-◌, Bool, true, List, [], ◌∷◌, ◌++◌}
use Rattle.std.proofs.Common.{refl, sym, ap, ◌∙◌, subst, arith, Result, Ok, Err, cond, take, drop}
use Rattle.std.specs.Prelude.{length, nat_le, nat_lt, ◌&&◌}
use Rattle.std.specs.FinMap.Entries.{find}
use Rattle.std.proofs.lemmas.List.{length-append, take-append-drop, length-take, length-drop}
use Rattle.std.proofs.lemmas.List.{drop-drop}
use Rattle.labels.specs.Labels.{point_cmp}
use Rattle.labels.specs.Contents.{Content}
use Rattle.labels.specs.Rows.{points_of}
use Rattle.labels.specs.Parts.{Part, laid_over, over, rows_in, content_of}
use Rattle.labels.proofs.ContentLaws.{is_sorted-over}
use Rattle.head.specs.Heads.{BlockPart, SnapshotParts, world_of, newest_in, head_part, parts_of}
use Rattle.head.specs.Heads.{EndBy, IsSoundSnapshot}
use Rattle.head.specs.Joins.{HoldSame, blocks_joined, parts_in, snapshot_joined}
use Rattle.head.specs.Kept.{KeepsBlocks}
use Rattle.head.specs.Refusals.{Refusal, no_such_blocks}
use Rattle.head.specs.Worlds.{World, joined, stepped}

over_both : (c : Content) (a b : List BlockPart)
    → over c (parts_in (a ++ b)) ≡ over (over c (parts_in a)) (parts_in b)
over_both c [] b = refl
over_both c (x ∷ a) b = over_both (laid_over (points_of (rows_in x.part)) c) a b

over_parts : (c : Content) (a b : List Part) → over c (a ++ b) ≡ over (over c a) b
over_parts c [] b = refl
over_parts c (x ∷ a) b = over_parts (laid_over (points_of (rows_in x)) c) a b

amid : (front run fewer back : List BlockPart) → HoldSame run fewer
    → HoldSame (front ++ (run ++ back)) (front ++ (fewer ++ back))
amid front run fewer back same c up =
    over_both c front (run ++ back)
    ∙ over_both (over c (parts_in front)) run back
    ∙ ap (λ (y : Content). over y (parts_in back))
    (same (over c (parts_in front)) (is_sorted-over (parts_in front) c up))
    ∙ sym (over_both (over c (parts_in front)) fewer back)
    ∙ sym (over_both c front (fewer ++ back))

-- the snapshot with these blocks
abbrev with_blocks : SnapshotParts → List BlockPart → SnapshotParts
with_blocks s blocks = record { blocks = blocks; head = s.head; floor = s.floor; copied = 0 }

abbrev fine : World → Result World Refusal
fine w = Ok w

abbrev outcome : Bool → World → Result World Refusal
outcome b w = cond b (Ok w) (Err no_such_blocks)

lengths : (front run fewer back : List BlockPart) → length fewer < length run
    → (length (front ++ (run ++ back)) - length run) + length fewer
    ≡ length (front ++ (fewer ++ back))
lengths front run fewer back less =
    let a : length (front ++ (run ++ back)) ≡ length front + length (run ++ back) =
    length-append front (run ++ back) in
    let b : length (run ++ back) ≡ length run + length back = length-append run back in
    let c : length (front ++ (fewer ++ back)) ≡ length front + length (fewer ++ back) =
    length-append front (fewer ++ back) in
    let d : length (fewer ++ back) ≡ length fewer + length back = length-append fewer back in
    omega (arith, a, b, c, d, less)

fits_within : (front run fewer back : List BlockPart) → length fewer < length run
    → (nat_lt (length fewer) (length run)
    && nat_le (length front + length run) (length (front ++ (run ++ back)))) ≡ true
fits_within front run fewer back less =
    let a : length (front ++ (run ++ back)) ≡ length front + length (run ++ back) =
    length-append front (run ++ back) in
    let b : length (run ++ back) ≡ length run + length back = length-append run back in
    grind (arith, a, b, less)

abbrev counted : SnapshotParts → Content → ℕ → World
counted s c n = record { content = c; newest = newest_in s.head; floor = s.floor; blocks = n }

same_content_of : (s : SnapshotParts) (new : List BlockPart) → HoldSame s.blocks new
    → content_of (parts_of s) ≡ content_of (parts_of (with_blocks s new))
same_content_of s new same =
    over_parts [] (parts_in s.blocks) (head_part s.head ∷ [])
    ∙ ap (λ (c : Content). over c (head_part s.head ∷ [])) (same [] tt)
    ∙ sym (over_parts [] (parts_in new) (head_part s.head ∷ []))

step_of : (s : SnapshotParts) (front run fewer back : List BlockPart)
    → length fewer < length run → HoldSame run fewer
    → s.blocks ≡ front ++ (run ++ back)
    → stepped (world_of s) (joined (length front) (length run) (length fewer))
    ≡ fine (world_of (with_blocks s (front ++ (fewer ++ back))))
unfolding world_of
step_of s front run fewer back less same was =
    ap (λ (b : Bool). outcome b (counted s (content_of (parts_of s))
    ((length s.blocks - length run) + length fewer)))
    (ap (λ (bs : List BlockPart). nat_lt (length fewer) (length run)
    && nat_le (length front + length run) (length bs)) was
    ∙ fits_within front run fewer back less)
    ∙ ap (λ (n : ℕ). fine (counted s (content_of (parts_of s)) n))
    (ap (λ (bs : List BlockPart). (length bs - length run) + length fewer) was
    ∙ lengths front run fewer back less)
    ∙ ap (λ (c : Content). fine (counted s c (length (front ++ (fewer ++ back)))))
    (same_content_of s (front ++ (fewer ++ back))
    (subst (λ (bs : List BlockPart). HoldSame bs (front ++ (fewer ++ back))) (sym was)
    (amid front run fewer back same)))

parted : (place count : ℕ) (blocks : List BlockPart)
    → blocks
    ≡ take place blocks ++ (take count (drop place blocks) ++ drop (place + count) blocks)
parted place count blocks =
    sym (take-append-drop place blocks)
    ∙ ap (λ (bs : List BlockPart). take place blocks ++ bs)
    (sym (take-append-drop count (drop place blocks))
    ∙ ap (λ (bs : List BlockPart). take count (drop place blocks) ++ bs)
    (drop-drop count place blocks))

front_long : (place count : ℕ) (blocks : List BlockPart) → place + count ≤ length blocks
    → length (take place blocks) ≡ place
front_long place count blocks within =
    let e = length-take place blocks in omega (arith, e, within)

run_long : (place count : ℕ) (blocks : List BlockPart) → place + count ≤ length blocks
    → length (take count (drop place blocks)) ≡ count
run_long place count blocks within =
    let e = length-take count (drop place blocks) in
    let d = length-drop place blocks in omega (arith, e, d, within)

kept_by : (s : SnapshotParts) (place count : ℕ) (made : List BlockPart)
    → place + count ≤ length s.blocks → length made < count
    → HoldSame (take count (drop place s.blocks)) made
    → KeepsBlocks (joined place count (length made)) s (blocks_joined place count made s.blocks)
kept_by s place count made within less same = record {
  front = take place s.blocks;
  run = take count (drop place s.blocks);
  fewer = made;
  back = drop (place + count) s.blocks;
  was = parted place count s.blocks;
  is = refl;
  at_place = front_long place count s.blocks within;
  of_run = run_long place count s.blocks within;
  so_many = refl;
  less = less;
  same = same;
}

steps : (s : SnapshotParts) (place count : ℕ) (made : List BlockPart)
    → place + count ≤ length s.blocks → length made < count
    → HoldSame (take count (drop place s.blocks)) made
    → stepped (world_of s) (joined place count (length made))
    ≡ fine (world_of (with_blocks s (blocks_joined place count made s.blocks)))
steps s place count made within less same =
    let run = take count (drop place s.blocks) in
    let e : length run ≡ count = run_long place count s.blocks within in
    let whole = world_of (with_blocks s (blocks_joined place count made s.blocks)) in
    subst (λ (n : ℕ). stepped (world_of s) (joined place n (length made)) ≡ fine whole) e
    (subst (λ (n : ℕ). stepped (world_of s) (joined n (length run) (length made)) ≡ fine whole)
    (front_long place count s.blocks within)
    (step_of s (take place s.blocks) run made (drop (place + count) s.blocks)
    (subst (λ (n : ℕ). length made < n) (sym e) less) same (parted place count s.blocks)))

-- what every snapshot keeps

ends_both : (floor : ℤ) (a b : List BlockPart) → EndBy floor a → EndBy floor b
    → EndBy floor (a ++ b)
ends_both floor [] b x y = y
ends_both floor (p ∷ a) b x y = (x.0, ends_both floor a b x.1 y)

ends_front : (floor : ℤ) (a b : List BlockPart) → EndBy floor (a ++ b) → EndBy floor a
ends_front floor [] b x = tt
ends_front floor (p ∷ a) b x = (x.0, ends_front floor a b x.1)

ends_back : (floor : ℤ) (a b : List BlockPart) → EndBy floor (a ++ b) → EndBy floor b
ends_back floor [] b x = x
ends_back floor (p ∷ a) b x = ends_back floor a b x.1

sound : (s : SnapshotParts) (place count : ℕ) (made : List BlockPart)
    → place + count ≤ length s.blocks → length made < count
    → HoldSame (take count (drop place s.blocks)) made → EndBy s.floor made
    → IsSoundSnapshot s → IsSoundSnapshot (with_blocks s (blocks_joined place count made s.blocks))
sound s place count made within less same ends h =
    let front = take place s.blocks in
    let run = take count (drop place s.blocks) in
    let back = drop (place + count) s.blocks in
    let p : s.blocks ≡ front ++ (run ++ back) = parted place count s.blocks in
    let whole : EndBy s.floor (front ++ (run ++ back)) =
    subst (λ (bs : List BlockPart). EndBy s.floor bs) p h.ends in
    let a : length s.blocks ≡ length (front ++ (run ++ back)) =
    ap (λ (bs : List BlockPart). length bs) p in
    let e : length run ≡ count = run_long place count s.blocks within in
    let shorter : length made < length run = subst (λ (n : ℕ). length made < n) (sym e) less in
    let c : (length (front ++ (run ++ back)) - length run) + length made
    ≡ length (front ++ (made ++ back)) = lengths front run made back shorter in
    let d : length (front ++ (run ++ back)) ≡ length front + length (run ++ back) =
    length-append front (run ++ back) in
    let f : length (run ++ back) ≡ length run + length back = length-append run back in
    record {
      few = omega (arith, a, c, d, f, shorter, h.few);
      time = h.time;
      ends = ends_both s.floor front (made ++ back) (ends_front s.floor front (run ++ back) whole)
          (ends_both s.floor made back ends
          (ends_back s.floor run back (ends_back s.floor front (run ++ back) whole)));
      head = h.head;
      blocks = record {
        none = λ l t above. ap (λ (c : Content). find point_cmp (l, t) c)
            (sym (ap (λ (bs : List BlockPart). over [] (parts_in bs)) p
            ∙ amid front run made back same [] tt))
            ∙ h.blocks.none l t above;
      };
    }

-- the snapshot is what a join makes of another: these blocks stand in it in the place of so many,
-- its world is the step's, its blocks are those that the join leaves, and it keeps what every
-- snapshot keeps
pub record IsJoinedSnapshot (place count n : ℕ) (made : List BlockPart)
    (old new : SnapshotParts) : Type 0 where
  pub is : new ≡ snapshot_joined place count made old
  pub step : stepped (world_of old) (joined place count n) ≡ fine (world_of new)
  pub kept : KeepsBlocks (joined place count n) old new.blocks
  pub sound : IsSoundSnapshot new

joins : (s t : SnapshotParts) (place count : ℕ) (made : List BlockPart)
    → place + count ≤ length s.blocks → length made < count
    → HoldSame (take count (drop place s.blocks)) made → EndBy s.floor made → IsSoundSnapshot s
    → t ≡ snapshot_joined place count made s
    → IsJoinedSnapshot place count (length made) made s t
joins s t place count made within less same ends h is = record {
  is = is;
  step = steps s place count made within less same
      ∙ ap (λ (v : SnapshotParts). fine (world_of v)) (sym is);
  kept = subst (λ (v : SnapshotParts). KeepsBlocks (joined place count (length made)) s v.blocks)
      (sym is) (kept_by s place count made within less same);
  sound = subst IsSoundSnapshot (sym is) (sound s place count made within less same ends h);
}

-- the same, of a snapshot as callers see it and as it is inside
pub joins_inside : (inside s t : SnapshotParts) (place count n : ℕ) (made : List BlockPart)
    → inside ≡ s → length made ≡ n
    → place + count ≤ length s.blocks → n < count
    → HoldSame (take count (drop place s.blocks)) made → EndBy s.floor made
    → IsSoundSnapshot inside
    → t.blocks ≡ blocks_joined place count made inside.blocks → t.head ≡ inside.head
    → t.floor ≡ inside.floor → t.copied ≡ 0
    → IsJoinedSnapshot place count n made s t
joins_inside inside s t place count n made seen so_many within less same ends h blocks head floor
    copied =
    let is : t ≡ snapshot_joined place count made inside = (λ i. record {
      blocks = blocks i;
      head = head i;
      floor = floor i;
      copied = copied i;
    }) in
    subst (λ (m : ℕ). IsJoinedSnapshot place count m made s t) so_many
    (joins s t place count made within
    (subst (λ (m : ℕ). m < count) (sym so_many) less) same ends (subst IsSoundSnapshot seen h)
    (is ∙ ap (snapshot_joined place count made) seen))
