use Rattle.std.proofs.lemmas.Result.{IfOk-weaker, IfErr-weaker}
use Rattle.audit_command.proofs.Reading.{no_reply}
use Rattle.audit_command.proofs.input.reply_in.Goals as goal

pub returns-clause-ok : goal.returns-clause-ok
returns-clause-ok g c =
    IfOk-weaker c.reply_of.result _ _ (λ reply h. record {
      text = c.in_ok-text.text.items;
      all = c.in_ok-text.ensures.ok;
      says = rw c.as_slice.ensures.value at h;
    }) c.reply_of.ensures.ok

pub returns-clause-err : goal.returns-clause-err
returns-clause-err g c =
    IfErr-weaker c.reply_of.result _ _
    (λ fault h. no_reply _ _ c.in_ok-text.ensures.ok fault (rw c.as_slice.ensures.value at h))
    c.reply_of.ensures.err
