use Rattle.std.proofs.Common.{subst, arith}
use Rattle.block_walk.specs.IndexFile.Outcome.{Gives}
use Rattle.block_walk.proofs.IndexFile.Again.{index_again}
use Rattle.block_walk.proofs.series_entries.SeriesEntries.read.Goals as goal

pub returns-clause-only : goal.returns-clause-only
returns-clause-only c =
    λ x p.
    subst (λ f. Gives (λ i. i) c.entries_of.result f) (index_again c.args.file.now x (λ i. omega (
      arith,
      c.type_inv.file i,
    )) p) c.entries_of.ensures.exact
