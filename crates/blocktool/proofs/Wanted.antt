-- What a block of Prometheus gives.
use Rattle.std.specs.Prelude.{List}
use Rattle.labels.specs.Rows.{Row}
use Rattle.index_reader.specs.Indexes.{Indexed}
use Rattle.tombstones.specs.declared.deletion.Deletion.{Deletion}
use Rattle.imported_values.specs.declared.form.Form.{Form}
use Rattle.kept_samples.specs.declared.keeping.Tally.{Tally}
use Rattle.prometheus_block.specs.declared.rows.Wanted.{Wanted}
use Rattle.prometheus_block.specs.Rows.{AreRowsOf}
use Rattle.prometheus_block.specs.Series.{Segments}
use Rattle.block_outputs.specs.declared.tiles.Stretch.{Stretch}
use Rattle.blocktool.specs.Prometheus.{IsWanted, IsGivenBy}

pub given_by : (reads : Segments) (index : Indexed) (deletions : List Deletion) (form : Form)
    (times : Stretch) (wanted : Wanted) (rows : List Row) (old new : Tally)
    → AreRowsOf reads wanted index.series rows old new
    → IsWanted index deletions form times wanted
    → IsGivenBy reads index deletions form times rows old new
given_by reads index deletions form times wanted rows old new h w = record
    { wanted = wanted; is = w; rows_are = h }
