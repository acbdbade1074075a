use Rattle.answers.specs.Joined.{joined}
use Rattle.std.proofs.lemmas.Result.{on_ok_weaker, on_err_weaker}
use Rattle.query_http.proofs.Written.{on_err, both, front_of_both, front_behind}
use Rattle.query_http.proofs.outlet.write_before.Goals as goal

pub returns-in_err-write_whole-clause-err : goal.returns-in_err-write_whole-clause-err
returns-in_err-write_whole-clause-err g c =
    on_err c.from_residual.result _
    (front_of_both (g.W.Outlet.output c.args.writer.now)
    (g.W.Outlet.output c.write_whole.new.writer) c.args.text.now (joined c.args.pieces.now)
    c.in_err-write_whole.ensures.err)

pub returns-clause-ok : goal.returns-clause-ok
returns-clause-ok g c =
    on_ok_weaker c.write_pieces.result
    (λ p. both (g.W.Outlet.output c.args.writer.now) (g.W.Outlet.output c.write_whole.new.writer)
    (g.W.Outlet.output c.write_pieces.new.writer) c.args.text.now (joined c.args.pieces.now)
    c.in_ok-write_whole.ensures.ok p)
    c.write_pieces.ensures.ok

pub returns-clause-err : goal.returns-clause-err
returns-clause-err g c =
    on_err_weaker c.write_pieces.result
    (λ h. front_behind (g.W.Outlet.output c.args.writer.now)
    (g.W.Outlet.output c.write_whole.new.writer) (g.W.Outlet.output c.write_pieces.new.writer)
    c.args.text.now (joined c.args.pieces.now) c.in_ok-write_whole.ensures.ok h)
    c.write_pieces.ensures.err

pub returns-clause-failed : goal.returns-clause-failed
returns-clause-failed g c =
    on_err_weaker c.write_pieces.result
    (λ h. rw c.in_ok-write_whole.ensures.counted at h)
    c.write_pieces.ensures.failed
