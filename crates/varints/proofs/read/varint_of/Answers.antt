use Rattle.std.proofs.Common.{arith, ℕ, List, Result, subst, ◌∙◌, ap}
use Rattle.wire.specs.Outcome.{Answers}
use Rattle.varints.specs.Varint.{varint_at}
use Rattle.varints.specs.declared.error.VarintError.{VarintError}
use Rattle.varints.proofs.Laws.{is_found, varint_again}
use Rattle.varints.proofs.read.varint_of.Goals as goal

pub returns-clause-found : goal.returns-clause-found
returns-clause-found c =
    is_found (λ x. (x.0, x.1.now)) c.front_of.result c.args.bytes.now (λ i. omega (arith, c.type_inv.bytes i)) c.front_of.ensures

pub returns-clause-only : goal.returns-clause-only
returns-clause-only c text rest n v e =
    subst (λ (r : Result (ℕ × List ℕ) VarintError). Answers (λ x. (x.0, x.1.now)) c.front_of.result r)
    (ap varint_at e ∙ varint_again text rest n v) c.front_of.ensures
