use Rattle.std.proofs.Common.{sym, ◌∙◌}
use Rattle.std.proofs.lemmas.Result.{err_from_is_err_and}
use Rattle.labels.specs.Pairs.{pairs_of}
use Rattle.remote_requests.proofs.ListingTurns.{enough_then, not_enough}
use Rattle.remote_requests.proofs.listings.bounds_for.Goals as goal

pub returns-in_err-enough : goal.returns-in_err-enough
returns-in_err-enough c =
    let p = err_from_is_err_and c.from_residual.result c.from_residual.ensures.1 in
    rw (p.1, p.2) (sym (not_enough (pairs_of c.args.pairs.now) _ _ _ (sym c.in_err-enough.ensures)))

pub returns : goal.returns
returns c =
    c.bounds_of.ensures
    ∙ sym (enough_then (pairs_of c.args.pairs.now) _ _ _ (sym c.in_ok-enough.ensures))
