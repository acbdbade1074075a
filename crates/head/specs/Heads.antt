-- What a head holds, and the world of a snapshot.
use Rattle.std.specs.Prelude.{◌≡◌, ℕ, ℤ, ◌+◌, ◌≤◌, true, false, not, T, List, [], ◌∷◌, ◌++◌, Option}
use Rattle.std.specs.Prelude.{None, Some, int_lt, int_le, length, map, if◌then◌else◌}
use Rattle.std.specs.List.{list_all, AllByRecursion}
use Rattle.std.specs.Ordering.{int_cmp}
use Rattle.std.specs.FinMap.Entries.{find, is_sorted}
use Rattle.labels.specs.Labels.{Labels, point_cmp, same_labels}
use Rattle.labels.specs.Contents.{is_time}
use Rattle.head.specs.Worlds.{World, Newest}
use Rattle.labels.specs.Parts.{Part, content_of, over}

-- one series of a head
pub record HeadSeries : Type 0 where
  pub labels : Labels
  pub samples : List (ℤ × ℤ)
  pub newest : ℤ × ℤ

abbrev pub newest_in : List HeadSeries → Newest
newest_in head = map (λ h. (h.labels, h.newest)) head

abbrev pub numbered : ℕ → List HeadSeries → Part
numbered n [] = []
numbered n (h ∷ hs) = (n, (h.labels, h.samples)) ∷ numbered (n + 1) hs

-- a head as a part: references from 1 in order of creation
abbrev pub head_part : List HeadSeries → Part
head_part head = numbered 1 head

-- a block's range, of which the second time is not in it, and its part
pub record BlockPart : Type 0 where
  pub min : ℤ
  pub max : ℤ
  pub part : Part

-- blocks, a head, a floor, and how many old samples the event that made them copied
pub record SnapshotParts : Type 0 where
  pub blocks : List BlockPart
  pub head : List HeadSeries
  pub floor : ℤ
  pub copied : ℕ

abbrev pub parts_of : SnapshotParts → List Part
parts_of s = map (λ b. b.part) s.blocks ++ head_part s.head ∷ []

-- the world of a snapshot
unfoldable pub world_of : SnapshotParts → World
world_of s = record {
  content = content_of (parts_of s);
  newest = newest_in s.head;
  floor = s.floor;
  blocks = length s.blocks;
}

-- the first series with these labels
abbrev pub series_at : Labels → List HeadSeries → Option HeadSeries
series_at l [] = None
series_at l (h ∷ hs) = if same_labels l h.labels then Some h else series_at l hs

-- a head's samples of a series ascend, are at or above the floor, and not above the newest; there
-- are at most 1,048,576
pub record IsSoundSeries (floor : ℤ) (h : HeadSeries) : Type 0 where
  pub few : length h.samples ≤ 1048576
  pub ascending : T (is_sorted int_cmp h.samples)
  pub above : T (list_all (λ e. not (int_lt e.0 floor)) h.samples)
  pub upto : T (list_all (λ e. not (int_lt h.newest.0 e.0)) h.samples)

abbrev pub IsSoundHead : ℤ → List HeadSeries → Type 0
IsSoundHead floor [] = Unit {0}
IsSoundHead floor (h ∷ hs) =
    IsSoundSeries floor h × (series_at h.labels hs ≡ None) × IsSoundHead floor hs

-- no block has a sample at or above the floor
pub record AreBelow (floor : ℤ) (blocks : List BlockPart) : Type 0 where
  pub none : (l : Labels) (t : ℤ) → int_lt t floor ≡ false
      → find point_cmp (l, t) (over [] (map (λ b. b.part) blocks)) ≡ None

-- the range of each block ends at or below the floor, also where the block has no sample
abbrev pub EndBy : ℤ → List BlockPart → Type 0
EndBy floor blocks = AllByRecursion (λ (b : BlockPart). int_le b.max floor ≡ true) blocks

-- what every snapshot keeps: there are at most 63 blocks, the floor is a time, each block's range
-- ends at or below it and no block has a sample from it on, and the head is sound
pub record IsSoundSnapshot (s : SnapshotParts) : Type 0 where
  pub few : length s.blocks ≤ 63
  pub time : is_time s.floor ≡ true
  pub ends : EndBy s.floor s.blocks
  pub head : IsSoundHead s.floor s.head
  pub blocks : AreBelow s.floor s.blocks
