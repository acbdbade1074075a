use Rattle.std.proofs.Common.{arith, ℕ, List, Result, subst, ◌∙◌, ap}
use Rattle.wire.specs.Outcome.{Answers}
use Rattle.protobuf_fields.specs.Format.{Value}
use Rattle.protobuf_fields.specs.Reading.{field_at, seen}
use Rattle.protobuf_fields.specs.declared.error.Fault.{Fault}
use Rattle.protobuf_fields.proofs.Fields.{field_again, is_found}
use Rattle.protobuf_fields.proofs.reads.field_of.Goals as goal

pub returns-clause-found : goal.returns-clause-found
returns-clause-found c =
    is_found (λ x. (seen x.0, x.1.now)) c.front_of.result c.args.bytes.now
    (λ i. omega (arith, c.type_inv.bytes i)) c.front_of.ensures.exact

pub returns-clause-only : goal.returns-clause-only
returns-clause-only c text rest value f e =
    subst (λ (r : Result (Value × List ℕ) Fault).
    Answers (λ x. (seen x.0, x.1.now)) c.front_of.result r)
    (ap field_at e ∙ field_again text rest value f) c.front_of.ensures.exact
