use Rattle.index_reader.specs.Seen.{strings_of}
use Rattle.index_reader.specs.Indexes as indexes
use Rattle.index_reader.specs.KeptIndex.{series_in}
use Rattle.index_reader.proofs.Placing.{mapped_at}
use Rattle.index_reader.proofs.Held.{series_seen}
use Rattle.index_reader.proofs.index.Index.chunks_at.Goals as goal

pub returns : goal.returns
returns c =
    let x = c.self.inside in
    let s = c.index-series.result.now in
    rw c.deref.ensures.value (mapped_at (λ (y : indexes.Series). y.chunks) c.args.self.now.series
    c.args.i (series_in (strings_of x.pairs.symbols.texts.items) x.labels.items x.chunks.items s)
    (series_seen (strings_of x.pairs.symbols.texts.items) x.pairs.keys.pairs.items
    x.labels.items x.chunks.items
    x.series.items c.args.self.now c.args.i s c.self.view_is c.requires c.index-series.ensures))
