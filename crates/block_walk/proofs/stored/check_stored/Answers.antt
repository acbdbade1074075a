use Rattle.std.proofs.Common.{sym, ◌∙◌}
use Rattle.std.proofs.lemmas.Result.{err_from_is_err_and}
use Rattle.block_walk.proofs.BlockFiles.Refusals.{stored_fails, stored_many, stored_few}
use Rattle.block_walk.proofs.stored.check_stored.Goals as goal

pub returns-in_err-few-clause-exact : goal.returns-in_err-few-clause-exact
returns-in_err-few-clause-exact g c =
    let p = err_from_is_err_and c.from_residual.result c.from_residual.ensures.1 in
    rw (p.1, p.2) (stored_fails c.args.chunks.now c.args.entries.now c.in_err-few.field-0.0
    c.in_err-few.ensures.exact)

pub returns-then-not-few-clause-exact : goal.returns-then-not-few-clause-exact
returns-then-not-few-clause-exact g c =
    stored_many c.args.chunks.now c.args.entries.now c.in_ok-few.ensures.exact
    (sym c.in_ok-few.ensures.few ∙ c.if-not-few.true)

pub returns-clause-exact : goal.returns-clause-exact
returns-clause-exact g c =
    stored_few c.args.chunks.now c.args.entries.now c.in_ok-few.ensures.exact
    (sym c.in_ok-few.ensures.few ∙ c.if-not-few.false)
