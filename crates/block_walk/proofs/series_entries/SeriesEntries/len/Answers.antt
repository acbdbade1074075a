use Rattle.std.proofs.Common.{arith}
use Rattle.block_walk.proofs.IndexFile.Keeping.{rows_long}
use Rattle.block_walk.proofs.series_entries.SeriesEntries.len.Goals as goal

pub returns : goal.returns
returns c = omega (
  arith,
  c.len.ensures,
  rows_long c.self.inside.checked c.args.self.now c.self.invariant c.self.view_is,
)
