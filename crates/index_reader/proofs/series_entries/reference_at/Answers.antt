use Rattle.std.proofs.Common.{◌/◌}
use Rattle.index_reader.specs.Layout.{SeriesEntry}
use Rattle.index_reader.specs.Seen.{entries_seen}
use Rattle.index_reader.proofs.Placing.{mapped_at}
use Rattle.index_reader.proofs.series_entries.reference_at.Goals as goal

pub returns : goal.returns
returns c =
    mapped_at (λ (p : SeriesEntry). p.offset / 16) (entries_seen c.args.entries.now) c.args.i _
    c.entry_at-entry.ensures.seen
