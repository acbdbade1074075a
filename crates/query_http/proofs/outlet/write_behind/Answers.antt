use Rattle.std.proofs.lemmas.Result.{on_ok_weaker, on_err_weaker}
use Rattle.answers.specs.Joined.{joined}
use Rattle.query_http.proofs.Written.{on_err, both, front_of_both, front_behind}
use Rattle.query_http.proofs.outlet.write_behind.Goals as goal

pub returns-in_err-write_pieces-clause-err : goal.returns-in_err-write_pieces-clause-err
returns-in_err-write_pieces-clause-err g c =
    on_err c.from_residual.result _
    (front_of_both (g.W.Outlet.output c.args.writer.now)
    (g.W.Outlet.output c.write_pieces.new.writer) (joined c.args.pieces.now) c.args.text.now
    c.in_err-write_pieces.ensures.err)

pub returns-clause-ok : goal.returns-clause-ok
returns-clause-ok g c =
    on_ok_weaker c.write_whole.result
    (λ p. both (g.W.Outlet.output c.args.writer.now) (g.W.Outlet.output c.write_pieces.new.writer)
    (g.W.Outlet.output c.write_whole.new.writer) (joined c.args.pieces.now) c.args.text.now
    c.in_ok-write_pieces.ensures.ok p)
    c.write_whole.ensures.ok

pub returns-clause-err : goal.returns-clause-err
returns-clause-err g c =
    on_err_weaker c.write_whole.result
    (λ h. front_behind (g.W.Outlet.output c.args.writer.now)
    (g.W.Outlet.output c.write_pieces.new.writer) (g.W.Outlet.output c.write_whole.new.writer)
    (joined c.args.pieces.now) c.args.text.now c.in_ok-write_pieces.ensures.ok h)
    c.write_whole.ensures.err

pub returns-clause-failed : goal.returns-clause-failed
returns-clause-failed g c =
    on_err_weaker c.write_whole.result
    (λ h. rw c.in_ok-write_pieces.ensures.counted at h)
    c.write_whole.ensures.failed
