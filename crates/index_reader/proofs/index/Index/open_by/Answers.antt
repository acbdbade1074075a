use Rattle.std.proofs.Common.{subst, arith}
use Rattle.index_reader.specs.Outcome.{Gives}
use Rattle.index_reader.proofs.Again.{index_again}
use Rattle.index_reader.proofs.LastChecks.{is_refused}
use Rattle.index_reader.proofs.index.Index.open_by.Goals as goal

pub returns-clause-only : goal.returns-clause-only
returns-clause-only g c =
    λ x p.
    subst (λ f. Gives (λ i. i) c.index_of.result f) (index_again c.args.file.now x (λ i. omega (
      arith,
      c.type_inv.file i,
    )) p) c.index_of.ensures.exact

pub returns-clause-refused : goal.returns-clause-refused
returns-clause-refused g c =
    is_refused c.args.file.now c.index_of.result (λ i. omega (arith, c.type_inv.file i))
    c.index_of.ensures.exact
