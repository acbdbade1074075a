-- The world of a snapshot after a deletion.
use Rattle.std.specs.Prelude.{◌≡◌, ◌≤◌, ℕ, suc, ℤ, ◌+◌, Bool, true, false, cond, not, T, List, [], ◌∷◌, ◌++◌, Option, None, Some, map, refl, length, filter, int_lt, is_some}
use Rattle.std.specs.List.{list_all}
use Rattle.std.specs.Ordering.{int_cmp}
use Rattle.std.specs.FinMap.Entries.{find, is_sorted-where_key}
use Rattle.std.proofs.Common.{sym, ◌∙◌, ap, subst, arith}
use Rattle.labels.specs.Labels.{Labels, Point, point_cmp, same_labels}
use Rattle.labels.specs.Parts.{Part, part_kept, over, content_of}
use Rattle.labels.proofs.Restricting.{kept, find-kept, kept-over}
use Rattle.labels.proofs.Times.{both_T, first_T, second_T, true_not_false}
use Rattle.matchers.specs.Views.{MatcherView}
use Rattle.matchers.specs.Satisfies.{satisfies_all}
use Rattle.head.specs.Worlds.{deleted}
use Rattle.head.specs.Heads.{HeadSeries, BlockPart, SnapshotParts, newest_in, numbered, head_part, parts_of, world_of, series_at, IsSoundSeries, IsSoundHead, EndBy, IsSoundSnapshot}
use Rattle.head.specs.Kept.{frame_of}
use Rattle.head.specs.Orders.{sets_of}
use Rattle.head.specs.Removing.{series_kept, head_kept, blocks_kept, survives, snapshot_less}

pub numbered-head_kept : (p : Point → Bool) (n : ℕ) (head : List HeadSeries) → numbered n (head_kept p head) ≡ part_kept p (numbered n head)
numbered-head_kept p n [] = refl
numbered-head_kept p n (h ∷ hs) = ap (λ (part : Part). (n, (h.labels, filter (λ s. p (h.labels, s.0)) h.samples)) ∷ part) (numbered-head_kept p (n + 1) hs)

newest-head_kept : (p : Point → Bool) (head : List HeadSeries) → newest_in (head_kept p head) ≡ newest_in head
newest-head_kept p [] = refl
newest-head_kept p (h ∷ hs) = ap (λ ns. (h.labels, h.newest) ∷ ns) (newest-head_kept p hs)

parts-blocks_kept : (p : Point → Bool) (blocks : List BlockPart) → map (λ b. b.part) (blocks_kept p blocks) ≡ map (part_kept p) (map (λ b. b.part) blocks)
parts-blocks_kept p [] = refl
parts-blocks_kept p (b ∷ bs) = ap (λ parts. part_kept p b.part ∷ parts) (parts-blocks_kept p bs)

map-last : (p : Point → Bool) (parts : List Part) (part : Part) → map (part_kept p) parts ++ part_kept p part ∷ [] ≡ map (part_kept p) (parts ++ part ∷ [])
map-last p [] part = refl
map-last p (x ∷ xs) part = ap (λ parts. part_kept p x ∷ parts) (map-last p xs part)

length-blocks_kept : (p : Point → Bool) (blocks : List BlockPart) → length (blocks_kept p blocks) ≡ length blocks
length-blocks_kept p [] = refl
length-blocks_kept p (b ∷ bs) = ap suc (length-blocks_kept p bs)

parts_of-less : (p : Point → Bool) (s : SnapshotParts) → parts_of (snapshot_less p s) ≡ map (part_kept p) (parts_of s)
parts_of-less p s =
    (λ i. parts-blocks_kept p s.blocks i ++ numbered-head_kept p 1 s.head i ∷ [])
    ∙ map-last p (map (λ b. b.part) s.blocks) (head_part s.head)

-- every part of the snapshot loses the samples
pub deleted-world_of : (ms : List MatcherView) (a b : ℤ) (s : SnapshotParts) →
    world_of (snapshot_less (survives ms a b) s) ≡ deleted (world_of s) (satisfies_all ms) a b
unfolding world_of
deleted-world_of ms a b s =
    let p : Point → Bool = survives ms a b in
    let content_is : content_of (parts_of (snapshot_less p s)) ≡ kept p (content_of (parts_of s)) =
    ap content_of (parts_of-less p s) ∙ sym (kept-over p (parts_of s) [] tt) in
    λ i. record { content = content_is i; newest = newest-head_kept p s.head i; floor = s.floor; blocks = length-blocks_kept p s.blocks i }

pub few_left : (p : ℤ × ℤ → Bool) (ss : List (ℤ × ℤ)) → length (filter p ss) ≤ length ss
few_left p [] = omega arith
few_left p (s ∷ ss) =
    let rest = few_left p ss in
    elim (p s) as (λ b. length (cond b (s ∷ filter p ss) (filter p ss)) ≤ suc (length ss)) [ true ↦ omega (arith, rest) | false ↦ omega (arith, rest) ]

pub all_filter : (p q : ℤ × ℤ → Bool) (ss : List (ℤ × ℤ)) → T (list_all p ss) → T (list_all p (filter q ss))
all_filter p q [] h = tt
all_filter p q (s ∷ ss) h = elim (q s) as (λ b. T (list_all p (cond b (s ∷ filter q ss) (filter q ss)))) [
  | true ↦ both_T _ _ (first_T _ _ h) (all_filter p q ss (second_T _ _ h))
  | false ↦ all_filter p q ss (second_T _ _ h)
]

series_kept_sound : (floor : ℤ) (p : Point → Bool) (h : HeadSeries) → IsSoundSeries floor h → IsSoundSeries floor (series_kept p h)
series_kept_sound floor p h sound = record {
  few = let left = few_left (λ s. p (h.labels, s.0)) h.samples in omega (arith, left, sound.few);
  ascending = is_sorted-where_key int_cmp (λ u. p (h.labels, u)) h.samples sound.ascending;
  above = all_filter (λ e. not (int_lt e.0 floor)) (λ s. p (h.labels, s.0)) h.samples sound.above;
  upto = all_filter (λ e. not (int_lt h.newest.0 e.0)) (λ s. p (h.labels, s.0)) h.samples sound.upto;
}

absent-head_kept : (k : Labels) (p : Point → Bool) (head : List HeadSeries) → series_at k head ≡ None → series_at k (head_kept p head) ≡ None
absent-head_kept k p [] none = refl
absent-head_kept k p (h ∷ hs) none =
    elim (same_labels k h.labels) as (λ a. cond a (Some h) (series_at k hs) ≡ None → cond a (Some (series_kept p h)) (series_at k (head_kept p hs)) ≡ None) [
      | true ↦ λ e. absurd (true_not_false (ap is_some e))
      | false ↦ λ e. absent-head_kept k p hs e
    ] none

pub IsSoundHead-head_kept : (floor : ℤ) (p : Point → Bool) (head : List HeadSeries) → IsSoundHead floor head → IsSoundHead floor (head_kept p head)
IsSoundHead-head_kept floor p [] sound = tt
IsSoundHead-head_kept floor p (h ∷ hs) sound =
    (series_kept_sound floor p h sound.0, absent-head_kept h.labels p hs sound.1, IsSoundHead-head_kept floor p hs sound.2)

none_kept : (b : Bool) (o : Option ℤ) → o ≡ None → cond b o None ≡ None
none_kept true o e = e
none_kept false o e = refl

-- each block keeps its range
ends_kept : (floor : ℤ) (p : Point → Bool) (blocks : List BlockPart) → EndBy floor blocks → EndBy floor (blocks_kept p blocks)
ends_kept floor p [] ends = tt
ends_kept floor p (b ∷ bs) ends = (ends.0, ends_kept floor p bs ends.1)

pub less_is_sound : (p : Point → Bool) (s : SnapshotParts) → IsSoundSnapshot s → IsSoundSnapshot (snapshot_less p s)
less_is_sound p s sound = record {
  few = subst (λ n. n ≤ 63) (sym (length-blocks_kept p s.blocks)) sound.few;
  time = sound.time;
  ends = ends_kept s.floor p s.blocks sound.ends;
  head = IsSoundHead-head_kept s.floor p s.head sound.head;
  blocks = record {
    none = λ l t high.
        ap (λ parts. find point_cmp (l, t) (over [] parts)) (parts-blocks_kept p s.blocks)
        ∙ ap (find point_cmp (l, t)) (sym (kept-over p (map (λ b. b.part) s.blocks) [] tt))
        ∙ find-kept p (l, t) (over [] (map (λ b. b.part) s.blocks))
        ∙ none_kept (p (l, t)) _ (sound.blocks.none l t high);
  };
}

-- references and label sets
abbrev frame : Part → List (ℕ × Labels)
frame part = map (λ row. (row.0, row.1.0)) part

frame-part_kept : (p : Point → Bool) (part : Part) → frame (part_kept p part) ≡ frame part
frame-part_kept p [] = refl
frame-part_kept p (row ∷ rows) = ap (λ (rs : List (ℕ × Labels)). (row.0, row.1.0) ∷ rs) (frame-part_kept p rows)

-- each block keeps its range, references and label sets
pub frames_kept : (p : Point → Bool) (blocks : List BlockPart) → map frame_of (blocks_kept p blocks) ≡ map frame_of blocks
frames_kept p [] = refl
frames_kept p (b ∷ bs) = λ i. ((b.min, b.max), frame-part_kept p b.part i) ∷ frames_kept p bs i

pub sets-head_kept : (p : Point → Bool) (head : List HeadSeries) → sets_of (head_kept p head) ≡ sets_of head
sets-head_kept p [] = refl
sets-head_kept p (h ∷ hs) = ap (λ ls. h.labels ∷ ls) (sets-head_kept p hs)
