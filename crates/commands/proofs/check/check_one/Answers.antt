use Rattle.std.proofs.Common.{ℕ, List, subst, ◌∙◌}
use Rattle.std.specs.Io.KnownBytes.{Appends}
use Rattle.std.proofs.lemmas.Result.{err_from_is_err_and}
use Rattle.commands.specs.Sending.{AppendsPrefix}
use Rattle.commands.proofs.check.check_one.Goals as goal

pub returns-clause-told : goal.returns-clause-told
returns-clause-told g c =
    subst (λ (bytes : List ℕ).
    Appends (g.W.Write.contents c.args.out.now) (g.W.Write.contents c.send.new.out) bytes)
    (c.as_bytes.ensures.value ∙ c.in_ok-judgement.ensures.line) c.in_ok-send.ensures.ok

pub returns-in_err-send-clause-cut : goal.returns-in_err-send-clause-cut
returns-in_err-send-clause-cut g c =
    let p =
    err_from_is_err_and c.from_residual-in_err-send.result c.from_residual-in_err-send.ensures.1 in
    rw (p.1, p.2) (
      c.in_ok-judgement.judgement,
      c.in_ok-judgement.ensures.judged,
      subst (AppendsPrefix _ _) (c.as_bytes.ensures.value ∙ c.in_ok-judgement.ensures.line)
          c.in_err-send.ensures.err,
    )
