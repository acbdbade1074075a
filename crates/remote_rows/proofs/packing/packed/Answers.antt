use Rattle.std.proofs.Common.{arith}
use Rattle.std.proofs.lemmas.Result.{IfOk-weaker}
use Rattle.remote_rows.proofs.Bodies.{is_body}
use Rattle.remote_rows.proofs.packing.packed.Goals as goal

pub returns : goal.returns
returns c = λ answers r.
    IfOk-weaker c.compress.result _ _
    (λ bytes stream. is_body answers c.args.text.now bytes.items r (omega arith) stream)
    c.compress.ensures
