use Rattle.std.proofs.Common.{arith}
use Rattle.labels.proofs.Orders.{equal_here, other_here, second_ends, first_ends, both_end}
use Rattle.labels.proofs.label_set.order_of_pairs.Goals as goal

pub returns-then-at-len : goal.returns-then-at-len
returns-then-at-len c = second_ends c.args.a.now c.args.b.now c.loop-at.at _ (omega arith) (omega arith) c.loop-at.invariant.same

pub returns-in_default : goal.returns-in_default
returns-in_default c = other_here c.args.a.now c.args.b.now c.loop-at.at _ _ _ _ (omega arith) (omega arith) c.pair.ensures c.pair-in-loop-at.ensures c.order_of.ensures c.in_default.not-Equal c.loop-at.invariant.same

pub loop-at-preserved : goal.loop-at-preserved
loop-at-preserved c = record {
  inside = omega arith;
  same = equal_here c.args.a.now c.args.b.now c.loop-at.at _ _ _ _ (omega arith) (omega arith) c.pair.ensures c.pair-in-loop-at.ensures c.order_of.ensures c.in-Equal.is c.loop-at.invariant.same;
}

pub returns-then-at-len-2 : goal.returns-then-at-len-2
returns-then-at-len-2 c = first_ends c.args.a.now c.args.b.now c.loop-at.at _ (omega arith) (omega arith) c.loop-at.invariant.same

pub returns : goal.returns
returns c = both_end c.args.a.now c.args.b.now c.loop-at.at _ (omega arith) (omega arith) c.loop-at.invariant.same
