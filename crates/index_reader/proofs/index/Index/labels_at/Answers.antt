use Rattle.std.specs.Prelude.{slice_range}
use Rattle.index_reader.specs.Seen.{strings_of}
use Rattle.index_reader.specs.Indexes.{named, label_sets}
use Rattle.index_reader.specs.Indexes as indexes
use Rattle.index_reader.specs.KeptIndex.{series_in}
use Rattle.index_reader.proofs.Placing.{mapped_at}
use Rattle.index_reader.proofs.Held.{series_seen, set_here}
use Rattle.index_reader.proofs.index.Index.labels_at.Goals as goal

pub returns : goal.returns
returns c =
    let x = c.self.inside in
    let s = c.index-series.result.now in
    let symbols = strings_of x.pairs.symbols.texts.items in
    set_here c.label_set_of.result
    (named symbols (slice_range x.labels.items s.labels_start s.labels_end))
    (label_sets c.args.self.now.series) c.args.i
    (mapped_at (λ (y : indexes.Series). y.labels) c.args.self.now.series c.args.i
    (series_in symbols x.labels.items x.chunks.items s)
    (series_seen symbols x.pairs.keys.pairs.items x.labels.items x.chunks.items x.series.items
    c.args.self.now c.args.i s c.self.view_is c.requires c.index-series.ensures))
    (rw c.deref.ensures.value at c.label_set_of.ensures)
