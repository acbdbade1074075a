use Rattle.remote_http.proofs.Replies.{refused}
use Rattle.remote_http.proofs.reply.refusal_reply.Goals as goal

pub returns : goal.returns
returns c =
    refused c.json_reply.result c.args.refusal.now c.status.result c.in_ok-line.line.items c.status.ensures
    c.in_ok-line.ensures c.json_reply.ensures.number c.json_reply.ensures.spelled
