use Rattle.std.proofs.Common.{sym}
use Rattle.std.proofs.lemmas.Result.{err_from_is_err_and}
use Rattle.remote_requests.proofs.CountTurns.{points_ok, points_many, points_told}
use Rattle.remote_requests.proofs.body.points_of.Goals as goal

pub returns-in_err-counts : goal.returns-in_err-counts
returns-in_err-counts c =
    let p = err_from_is_err_and c.from_residual.result c.from_residual.ensures.1 in
    rw (p.1, p.2) (points_told c.args.text.now _ c.in_err-counts.ensures)

pub returns-then-are_few : goal.returns-then-are_few
returns-then-are_few c =
    let p = c.in_ok-counts.ensures in
    points_ok c.args.text.now p.0 c.in_ok-counts.counts p.1 p.2 (sym c.if-are_few.ensures)

pub returns-else-are_few : goal.returns-else-are_few
returns-else-are_few c =
    let p = c.in_ok-counts.ensures in
    points_many c.args.text.now p.0 c.in_ok-counts.counts p.1 p.2 (sym c.if-are_few.ensures)
