use Rattle.query_http.proofs.Replying.{answer_replied}
use Rattle.query_http.proofs.actions.answer_query.Goals as goal

pub returns-in-Ok-clause-reply : goal.returns-in-Ok-clause-reply
returns-in-Ok-clause-reply g c =
    answer_replied g.J.Naming.opening c.args.query.now c.args.pass.now _ c.in-Ok.answer
    c.answer_reply.result
    c.in-Ok.ensures.headline c.answer_reply.ensures.number c.answer_reply.ensures.spelled
