use Rattle.std.proofs.Common.{◌∙◌, arith}
use Rattle.block.proofs.Walking.{step_over, stops_at}
use Rattle.block.proofs.live_list.next_live.Goals as goal

pub loop-place-preserved : goal.loop-place-preserved
loop-place-preserved c = record {
  within = omega arith;
  moved =
      step_over c.args.times.from c.args.times.to c.args.block.now.part c.loop-place.place
      c.is_live_at.result (omega arith) c.is_live_at.ensures c.if-not-is_live_at.true
      ∙ c.loop-place.invariant.moved;
}

pub returns-else-not-is_live_at-clause-settled : goal.returns-else-not-is_live_at-clause-settled
returns-else-not-is_live_at-clause-settled c =
    stops_at c.args.times.from c.args.times.to c.args.block.now.part c.loop-place.place
    c.is_live_at.result (omega arith) c.is_live_at.ensures c.if-not-is_live_at.false
