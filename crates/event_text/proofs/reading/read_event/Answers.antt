use Rattle.std.proofs.Common.{Result, sym, subst, arith}
use Rattle.std.proofs.lemmas.Result.{err_from_is_err_and}
use Rattle.head.specs.Worlds.{Event}
use Rattle.event_text.specs.declared.error.TextError.{TextError}
use Rattle.event_text.specs.Outcome.{FollowsFrom}
use Rattle.event_text.proofs.Events.{is_found, is_only, is_only_memory}
use Rattle.event_text.proofs.reading.read_event.Goals as goal

pub returns-in_err-parts-clause-only : goal.returns-in_err-parts-clause-only
returns-in_err-parts-clause-only c e s =
    let p = err_from_is_err_and c.from_residual.result c.from_residual.ensures.1 in
    rw (p.1, p.2) (is_only_memory c.args.bytes.now c.in_err-parts.field-0.0 e c.in_err-parts.ensures.exact s)

pub returns-clause-found : goal.returns-clause-found
returns-clause-found c =
    is_found c.args.bytes.now c.built.result (λ i. omega (arith, c.type_inv.bytes i))
    (subst (λ (r : Result Event TextError). FollowsFrom r c.built.result) (sym c.in_ok-parts.ensures.exact)
    c.built.ensures)

pub returns-clause-only : goal.returns-clause-only
returns-clause-only c e s =
    is_only c.args.bytes.now c.built.result e
    (subst (λ (r : Result Event TextError). FollowsFrom r c.built.result) (sym c.in_ok-parts.ensures.exact)
    c.built.ensures) s
