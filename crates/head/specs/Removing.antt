-- A snapshot less some of its samples.
use Rattle.std.specs.Prelude.{ℕ, ℤ, ◌+◌, Bool, not, ◌&&◌, List, [], ◌∷◌, map, filter, int_lt}
use Rattle.std.specs.Prelude.{if◌then◌else◌}
use Rattle.labels.specs.Labels.{Point}
use Rattle.labels.specs.Contents.{in_range}
use Rattle.labels.specs.Parts.{part_kept, has_sample}
use Rattle.labels.specs.Rows.{Row}
use Rattle.matchers.specs.Views.{MatcherView}
use Rattle.matchers.specs.Satisfies.{satisfies_all}
use Rattle.block.specs.Fewer.{is_among}
use Rattle.head.specs.Heads.{HeadSeries, BlockPart, SnapshotParts}

-- the series with the samples that pass a test; its newest sample is known as before
abbrev pub series_kept : (Point → Bool) → HeadSeries → HeadSeries
series_kept p h = record h { samples = filter (λ s. p (h.labels, s.0)) h.samples }

abbrev pub head_kept : (Point → Bool) → List HeadSeries → List HeadSeries
head_kept p head = map (series_kept p) head

-- the block with the samples that pass a test
abbrev pub block_kept : (Point → Bool) → BlockPart → BlockPart
block_kept p b = record b { part = part_kept p b.part }

abbrev pub blocks_kept : (Point → Bool) → List BlockPart → List BlockPart
blocks_kept p blocks = map (block_kept p) blocks

-- whether a deletion leaves the sample at a point
abbrev pub survives : List MatcherView → ℤ → ℤ → Point → Bool
survives ms from to q = not (satisfies_all ms q.0 && in_range from to q.1)

-- whether a deletion takes a sample of a row
abbrev pub is_struck : List MatcherView → ℤ → ℤ → ℕ × Row → Bool
is_struck ms from to row = satisfies_all ms row.1.0 && has_sample from to row.1.1

-- those of the samples whose times lie outside the closed range
abbrev pub outside : ℤ → ℤ → List (ℤ × ℤ) → List (ℤ × ℤ)
outside from to samples = filter (λ (s : ℤ × ℤ). not (in_range from to s.0)) samples

-- the series less its samples in the closed range
abbrev pub series_less : ℤ → ℤ → HeadSeries → HeadSeries
series_less from to h = record h { samples = outside from to h.samples }

-- series, of which the first has this reference, less the samples in the closed range of those
-- whose references are listed
abbrev pub head_less : List ℕ → ℤ → ℤ → ℕ → List HeadSeries → List HeadSeries
head_less references from to n [] = []
head_less references from to n (h ∷ hs) =
    (if is_among references n then series_less from to h else h)
    ∷ head_less references from to (n + 1) hs

-- whether a time is this one or a later one
abbrev pub from_on : ℤ → Point → Bool
from_on t q = not (int_lt q.1 t)

-- the head after a cut: samples from the time on, of the series whose newest sample is not below it
abbrev pub head_cut : ℤ → List HeadSeries → List HeadSeries
head_cut t head = filter (λ h. not (int_lt h.newest.0 t)) (head_kept (from_on t) head)

-- the snapshot after a deletion
abbrev pub snapshot_less : (Point → Bool) → SnapshotParts → SnapshotParts
snapshot_less p s = record {
  blocks = blocks_kept p s.blocks;
  head = head_kept p s.head;
  floor = s.floor;
  copied = 0;
}

-- the snapshot after a cut that left these blocks
abbrev pub snapshot_cut : ℤ → List BlockPart → SnapshotParts → SnapshotParts
snapshot_cut t blocks s =
    record { blocks = blocks; head = head_cut t s.head; floor = t; copied = 0 }
