-- Snapshots out of what was saved of one.
use Rattle.std.specs.Prelude.{◌≡◌, ◌≤◌, ℤ, Bool, ◌&&◌, List, None, length, map, nat_le, int_le}
use Rattle.std.specs.List.{list_all}
use Rattle.std.specs.Ordering.{int_cmp}
use Rattle.std.specs.FinMap.Entries.{is_sorted}
use Rattle.labels.specs.Contents.{in_range, is_time}
use Rattle.block.specs.Blocks.{Shown}
use Rattle.head.specs.Limits.{max_series, max_samples}
use Rattle.head.specs.Blocks.{part_in, opening_floor}
use Rattle.head.specs.Heads.{BlockPart, HeadSeries, SnapshotParts, IsSoundSeries, IsSoundHead}
use Rattle.head.specs.Heads.{IsSoundSnapshot}
use Rattle.head.specs.Taking.{place_from}
use Rattle.head.specs.declared.error.ResumeError.{ResumeError}
use Rattle.head.specs.declared.error.ResumeError.TheVariants.{Unsound, Memory}

-- these blocks, a floor, and a head of these series
abbrev pub resumed : List BlockPart → ℤ → List HeadSeries → SnapshotParts
resumed blocks floor head = record { blocks = blocks; head = head; floor = floor; copied = 0 }

-- a store may have a snapshot so: it keeps what every snapshot keeps, and has no more series than a
-- head may have
pub record MayStand (s : SnapshotParts) : Type 0 where
  pub sound : IsSoundSnapshot s
  pub few : length s.head ≤ max_series

-- series that a head of this floor may have, and no more than it may
pub record MayStandInHead (floor : ℤ) (head : List HeadSeries) : Type 0 where
  pub sound : IsSoundHead floor head
  pub few : length head ≤ max_series

-- the refusal says that this does not hold, or that there was no memory
abbrev pub Denies : ResumeError → Type 0 → Type 0
Denies Unsound P = P → ⊥
Denies Memory P = Unit {0}

-- whether a snapshot of this floor may have the blocks: there are at most 63, the floor is a time,
-- and no range ends above it
abbrev pub may_have : ℤ → List Shown → Bool
may_have floor blocks =
    nat_le (length blocks) 63 && is_time floor && int_le (opening_floor (map part_in blocks)) floor

-- whether a head of this floor may have the series
abbrev pub is_sound : ℤ → HeadSeries → Bool
is_sound floor h =
    nat_le (length h.samples) max_samples && is_sorted int_cmp h.samples
    && list_all (λ s. in_range floor h.newest.0 s.0) h.samples

-- a head of this floor may have the series after these: it is sound, and none of them has its label
-- set
pub record MayJoin (floor : ℤ) (head : List HeadSeries) (h : HeadSeries) : Type 0 where
  pub sound : IsSoundSeries floor h
  pub absent : place_from h.labels 0 head ≡ None
