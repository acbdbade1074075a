use Rattle.block_outputs.specs.Joined.{lists_in}
use Rattle.block_outputs.proofs.Lists.{one_more_answer}
use Rattle.block_outputs.proofs.joining.answers_of.Goals as goal

pub loop-rows-preserved : goal.loop-rows-preserved
loop-rows-preserved c =
    one_more_answer (lists_in c.args.lists.items) c.loop-rows.lists.items c.pop.new.self.items
    c.in-Some.rows c.loop-rows.answers.items c.push.new.self.items c.answer_of.result
    c.in-Some.ensures.items c.in_ok-push.ensures.items c.answer_of.ensures c.loop-rows.invariant
