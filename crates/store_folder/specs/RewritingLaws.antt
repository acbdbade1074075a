-- That blocks which are written anew have the same world.
use Rattle.std.specs.Prelude.{◌≡◌, ℕ, suc, ℤ, List, [], ◌∷◌, ◌++◌, Ok, length, map, refl}
use Rattle.std.proofs.Common.{ap, subst, ◌∙◌}
use Rattle.head.specs.Heads.{BlockPart, HeadSeries, SnapshotParts, head_part, newest_in, world_of}
use Rattle.head.specs.Worlds.{Event, Newest, World, replayed}
use Rattle.head_record.specs.Saved.{Saved}
use Rattle.labels.specs.Contents.{Content}
use Rattle.labels.specs.Parts.{Part, laid_over, over, rows_in}
use Rattle.labels.specs.Rows.{points_of}
use Rattle.store_folder.specs.Rewriting.{HaveSame}
use Rattle.store_folder.specs.States.{started}

abbrev parts_in : List BlockPart → List Part
parts_in blocks = map (λ (b : BlockPart). b.part) blocks

same_over : (c : Content) (a b : List BlockPart) (rest : List Part) → HaveSame a b
    → over c (parts_in a ++ rest) ≡ over c (parts_in b ++ rest)
same_over c [] [] rest h = refl
same_over c [] (b ∷ new) rest h = absurd h
same_over c (a ∷ old) [] rest h = absurd h
same_over c (a ∷ old) (b ∷ new) rest h =
    same_over (laid_over (points_of (rows_in a.part)) c) old new rest h.1
    ∙ ap (λ (ps : Content). over (laid_over ps c) (parts_in new ++ rest)) h.0

same_count : (a b : List BlockPart) → HaveSame a b → length a ≡ length b
same_count [] [] h = refl
same_count [] (b ∷ new) h = absurd h
same_count (a ∷ old) [] h = absurd h
same_count (a ∷ old) (b ∷ new) h = ap suc (same_count old new h.1)

abbrev world_with : Content → Newest → ℤ → ℕ → World
world_with content newest floor blocks = record {
  content = content;
  newest = newest;
  floor = floor;
  blocks = blocks;
}

-- the world of a head and such blocks is the snapshot's
pub same_world : (s : SnapshotParts) (saved : Saved) (parts : List BlockPart)
    → HaveSame s.blocks parts → s.head ≡ saved.head → s.floor ≡ saved.floor
    → world_of s ≡ world_of (started saved parts)
unfolding world_of
same_world s saved parts same head floor =
    ap (λ (c : Content). world_with c (newest_in s.head) s.floor (length s.blocks))
    (same_over [] s.blocks parts (head_part s.head ∷ []) same)
    ∙ (ap (λ (h : List HeadSeries). world_with (over [] (parts_in parts ++ head_part h ∷ []))
    (newest_in h) s.floor (length s.blocks)) head
    ∙ (ap (λ (f : ℤ). world_with (over [] (parts_in parts ++ head_part saved.head ∷ []))
    (newest_in saved.head) f (length s.blocks)) floor
    ∙ ap (λ (n : ℕ). world_with (over [] (parts_in parts ++ head_part saved.head ∷ []))
    (newest_in saved.head) saved.floor n) (same_count s.blocks parts same)))

-- so a journal may begin with them (`MayRoll`)
pub same_replay : (first : World) (events : List Event) (s : SnapshotParts) (saved : Saved)
    (parts : List BlockPart) → HaveSame s.blocks parts → s.head ≡ saved.head
    → s.floor ≡ saved.floor → replayed first events ≡ Ok (world_of s)
    → replayed first events ≡ Ok (world_of (started saved parts))
same_replay first events s saved parts same head floor h =
    subst (λ (w : World). replayed first events ≡ Ok w) (same_world s saved parts same head floor) h
