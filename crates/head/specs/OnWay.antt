-- A sift on its way.
use Rattle.std.specs.Prelude.{◌≡◌, ◌++◌, Bool, T, List, [], Ok}
use Rattle.std.specs.List.{list_all}
use Rattle.labels.specs.Labels.{Labels}
use Rattle.labels.specs.Rows.{Row}
use Rattle.head.specs.BatchRows.{batch_of_rows}
use Rattle.head.specs.declared.left.Left.{Left}
use Rattle.head.specs.declared.left.Reason.{Reason}
use Rattle.head.specs.Worlds.{World, Batch}
use Rattle.head.specs.Heads.{SnapshotParts, world_of}
use Rattle.head.specs.Slots.{Slot, series_in_each, AllOwn}
use Rattle.head.specs.Taking.{head_added_each}
use Rattle.head.specs.Sifting.{sifted}
use Rattle.head.specs.Laws.{reasons}
use Rattle.head.specs.Telling.{told_of}

-- With these kept and left out, the sift of what is left from this world comes to that of all from
-- the first world.
pub record IsOnWay (first : World) (all : Batch) (w : World) (rest kept : Batch)
    (left : Left) : Type 0 where
  pub world : (sifted w rest).world ≡ (sifted first all).world
  pub kept_first : kept ++ (sifted w rest).kept ≡ (sifted first all).kept
  pub out : List Reason
  pub told : left ≡ told_of out
  pub reasons_first : out ++ reasons (sifted w rest).left ≡ reasons (sifted first all).left

-- the snapshot with the series of a version in the making for its head
abbrev pub with_slots : SnapshotParts → List Slot → SnapshotParts
with_slots s slots = record s { head = series_in_each slots }

-- rows that have no sample together are no rows
abbrev pub HaveSamples : List Row → Type 0
HaveSamples rows = batch_of_rows rows ≡ [] → rows ≡ []

-- a batch has come to this version in the making
pub record IsReached (s : SnapshotParts) (slots : List Slot) : Type 0 where
  pub samples : Batch
  pub step : head_added_each s.floor (Ok s.head) 0 samples ≡ Ok (series_in_each slots)

-- A sift of a batch has come to this version in the making: these are left, these are kept and left
-- out. The step takes what is kept, and the version's own series are of its label sets.
pub record IsSiftedTo (s : SnapshotParts) (all : Batch) (slots : List Slot) (rest kept : Batch)
    (left : Left) : Type 0 where
  pub way : IsOnWay (world_of s) all (world_of (with_slots s slots)) rest kept left
  pub step : head_added_each s.floor (Ok s.head) 0 kept ≡ Ok (series_in_each slots)
  pub owners : (p : Labels → Bool) → T (list_all (λ x. p x.0) kept) → AllOwn p slots
