-- What a block of Prometheus gives of a range of times.
use Rattle.std.specs.Prelude.{◌≡◌, ◌≤ℤ◌, List, []}
use Rattle.labels.specs.Parts.{laid_over}
use Rattle.labels.specs.Rows.{Row, points_of}
use Rattle.index_reader.specs.Indexes.{Indexed}
use Rattle.tombstones.specs.declared.deletion.Deletion.{Deletion}
use Rattle.imported_values.specs.declared.form.Form.{Form}
use Rattle.kept_samples.specs.declared.keeping.Tally.{Tally}
use Rattle.prometheus_block.specs.declared.rows.Wanted.{Wanted}
use Rattle.prometheus_block.specs.Narrowing.{AreReadAlike}
use Rattle.prometheus_block.specs.Rows.{AreRowsOf}
use Rattle.prometheus_block.specs.Series.{Segments}
use Rattle.block_outputs.specs.declared.tiles.Stretch.{Stretch}
use Rattle.block_outputs.specs.Contents.{restricted}
use Rattle.blocktool.specs.Listed.{content_of_rows}

-- what is wanted of a block: its samples in a range that no deletion deletes, in this form
pub record IsWanted (index : Indexed) (deletions : List Deletion) (form : Form)
    (times : Stretch) (wanted : Wanted) : Type 0 where
  pub index_is : wanted.index.now ≡ index
  pub deletions_are : wanted.tombstones.now ≡ deletions
  pub form_is : wanted.form ≡ form
  pub from : wanted.times.from ≡ times.from
  pub to : wanted.times.to ≡ times.to

-- a block gives these rows of a range: those of its series, by what its segments may be read as
pub record IsGivenBy (reads : Segments) (index : Indexed) (deletions : List Deletion)
    (form : Form) (times : Stretch) (rows : List Row) (old new : Tally) : Type 0 where
  pub wanted : Wanted
  pub is : IsWanted index deletions form times wanted
  pub rows_are : AreRowsOf reads wanted index.series rows old new

-- a block whose segments are read alike each time, and which gives rows of a range, gives of each
-- part of it exactly what these hold in it
abbrev pub BlocksGiveTheirContent : Segments → Type 0
BlocksGiveTheirContent reads = (index : Indexed) (deletions : List Deletion) (form : Form)
    → AreReadAlike reads
    → (whole : Stretch) (all : List Row) (a b : Tally)
    → IsGivenBy reads index deletions form whole all a b
    → (s : Stretch) → whole.from ≤ℤ s.from → s.to ≤ℤ whole.to
    → (rows : List Row) (old new : Tally) → IsGivenBy reads index deletions form s rows old new
    → laid_over (points_of rows) [] ≡ restricted s.from s.to (content_of_rows all)
