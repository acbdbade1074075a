use Rattle.answers.specs.Joined.{joined}
use Rattle.std.proofs.lemmas.Result.{on_ok_weaker, on_err_weaker}
use Rattle.commands.proofs.Checks.{appends_on}
use Rattle.commands.proofs.Sendings.{on_err, prefix_of_both, prefix_behind}
use Rattle.commands.proofs.sending.write_both.Goals as goal

pub returns-in_err-write_pieces-clause-err : goal.returns-in_err-write_pieces-clause-err
returns-in_err-write_pieces-clause-err g c =
    on_err c.from_residual.result
    (prefix_of_both (g.W.Write.contents c.args.out.now) (g.W.Write.contents c.write_pieces.new.out)
    (joined c.args.first.now) (joined c.args.second.now) c.in_err-write_pieces.ensures.err)

pub returns-clause-ok : goal.returns-clause-ok
returns-clause-ok g c =
    on_ok_weaker c.write_pieces-2.result
    (λ p. appends_on (g.W.Write.contents c.args.out.now) (g.W.Write.contents c.write_pieces.new.out)
    (g.W.Write.contents c.write_pieces-2.new.out) (joined c.args.first.now) (joined c.args.second.now)
    c.in_ok-write_pieces.ensures.ok p)
    c.write_pieces-2.ensures.ok

pub returns-clause-err : goal.returns-clause-err
returns-clause-err g c =
    on_err_weaker c.write_pieces-2.result
    (λ h. prefix_behind (g.W.Write.contents c.args.out.now)
    (g.W.Write.contents c.write_pieces.new.out) (g.W.Write.contents c.write_pieces-2.new.out)
    (joined c.args.first.now) (joined c.args.second.now) c.in_ok-write_pieces.ensures.ok h)
    c.write_pieces-2.ensures.err
