use Rattle.std.proofs.Common.{inl, ◌∙◌}
use Rattle.std.proofs.lemmas.Result.{err_from_is_err_and}
use Rattle.commands.specs.declared.fault.Fault.TheVariants.{Memory}
use Rattle.commands.proofs.LineEnds.{unused}
use Rattle.commands.proofs.Servings.{not_opened, room_counted, seats_counted}
use Rattle.commands.proofs.keeping.serve_kept.Goals as goal

pub with_roles-requires : goal.with_roles-requires
with_roles-requires g c =
    seats_counted c.passes_of-passes.result c.seats_of-seats.result c.in_ok-opened.opened _
    c.seats_of-seats.ensures c.in_ok-opened.ensures.workers c.in_ok-opened.ensures.room

pub returns-in_err-opened-clause-err : goal.returns-in_err-opened-clause-err
returns-in_err-opened-clause-err g c =
    let p = err_from_is_err_and c.from_residual.result c.from_residual.ensures.1 in
    rw (p.1, p.2) (inl (
      not_opened c.args.serving _ (λ bad room. c.in_err-opened.ensures.refused bad
          (room_counted _ _ _ _ c.passes_of-passes.ensures c.seats_of-seats.ensures room)) (λ limit.
          c.in_err-opened.ensures.few limit),
      unused _ (g.W.Write.contents c.args.out.now),
    ))

pub returns-in_err-workers-clause-err : goal.returns-in_err-workers-clause-err
returns-in_err-workers-clause-err g c =
    let p =
    err_from_is_err_and c.from_residual-in_err-workers.result
    c.from_residual-in_err-workers.ensures.1 in
    rw (p.1, p.2) (inl (tt, unused Memory (g.W.Write.contents c.args.out.now)))

pub returns-clause-workers : goal.returns-clause-workers
returns-clause-workers g c =
    rw (c.joining-workers.ensures ∙ c.in_ok-workers.ensures) at c.serve_workers.ensures.workers
