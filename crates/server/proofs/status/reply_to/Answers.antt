use Rattle.std.proofs.lemmas.Result.{IfOk-weaker}
use Rattle.server.proofs.status.reply_to.Goals as goal

pub returns : goal.returns
returns g c =
    let told = rw c.is_bare.ensures at c.reply_of.ensures in
    IfOk-weaker c.reply_of.result _ _
    (λ reply is. (c.asked_in.result, c.asked_in.ensures, is)) told
