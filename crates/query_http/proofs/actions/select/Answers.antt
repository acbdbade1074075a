use Rattle.query_http.specs.Bounds.{is_bounded}
use Rattle.query_http.proofs.Replying.{later_replied}
use Rattle.query_http.proofs.actions.select.Goals as goal

pub returns-in-Ok-true-clause-reply : goal.returns-in-Ok-true-clause-reply
returns-in-Ok-true-clause-reply g c =
    later_replied g.J.Naming.opening (is_bounded c.args.buffers.now) c.args.query.now
    c.args.pass.now c.take_room.new.pass c.answer_query.new.pass c.answer_query.result
    c.in-Ok-true.ensures.seen c.in-Ok-true.ensures.told c.answer_query.ensures.reply
