use Rattle.std.proofs.Common.{arith}
use Rattle.kept_walk.proofs.LabelSets.{names_go_on, names_stop, names_end}
use Rattle.kept_walk.proofs.neighbours.are_by_name.Goals as goal

pub returns-then-not-is_before : goal.returns-then-not-is_before
returns-then-not-is_before c =
    names_stop c.args.pairs.now c.loop-i.i _ _ (omega arith) (omega arith) c.loop-i.invariant
    c.if-not-is_before.ensures

pub loop-i-preserved : goal.loop-i-preserved
loop-i-preserved c =
    names_go_on c.args.pairs.now c.loop-i.i _ _ (omega arith) (omega arith) c.loop-i.invariant
    c.if-not-is_before.ensures

pub returns : goal.returns
returns c = names_end c.args.pairs.now c.loop-i.i (omega arith) c.loop-i.invariant
