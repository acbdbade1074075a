use Rattle.std.proofs.lemmas.Result.{IfOk-weaker}
use Rattle.query_http.proofs.Replying.{conflict_spelled}
use Rattle.query_http.proofs.actions.conflict_reply.Goals as goal

pub returns-clause-spelled : goal.returns-clause-spelled
returns-clause-spelled c =
    IfOk-weaker c.refusal_reply.result _ _
    (λ r h. conflict_spelled _ c.args.error _ _ h c.code.ensures c.refused_at.ensures)
    c.refusal_reply.ensures
