use Rattle.std.proofs.Common.{SFits, w64, rules, sym}
use Rattle.std.proofs.lemmas.Int.{to_z-of_z}
use Rattle.std.proofs.lemmas.Result.{err_from_is_err_and}
use Rattle.labels.specs.Pairs.{pairs_of}
use Rattle.remote_requests.proofs.ListingTurns.{all_bounds, no_end, no_limit, no_start}
use Rattle.remote_requests.proofs.listings.bounds_of.Goals as goal

pub returns-in_err-start : goal.returns-in_err-start
returns-in_err-start c =
    let p = err_from_is_err_and c.from_residual.result c.from_residual.ensures.1 in
    rw (p.1, p.2) (sym (no_start (pairs_of c.args.pairs.now) _ (sym c.in_err-start.ensures)))

pub returns-in_err-end : goal.returns-in_err-end
returns-in_err-end c =
    let p = err_from_is_err_and c.from_residual-in_err-end.result
    c.from_residual-in_err-end.ensures.1 in
    rw (p.1, p.2)
    (sym (no_end (pairs_of c.args.pairs.now) _ _ (sym c.in_ok-start.ensures)
    (sym c.in_err-end.ensures)))

pub returns-in_err-limit : goal.returns-in_err-limit
returns-in_err-limit c =
    let p = err_from_is_err_and c.from_residual-in_err-limit.result
    c.from_residual-in_err-limit.ensures.1 in
    rw (p.1, p.2)
    (sym (no_limit (pairs_of c.args.pairs.now) _ _ _ (sym c.in_ok-start.ensures)
    (sym c.in_ok-end.ensures) (sym c.in_err-limit.ensures)))

pub returns : goal.returns
returns c =
    let start : SFits w64 c.in_ok-start.start = search rules in
    let end : SFits w64 c.in_ok-end.end = search rules in
    rw (to_z-of_z w64 _ start, to_z-of_z w64 _ end)
    (sym (all_bounds (pairs_of c.args.pairs.now) _ _ _ (sym c.in_ok-start.ensures)
    (sym c.in_ok-end.ensures) (sym c.in_ok-limit.ensures)))
