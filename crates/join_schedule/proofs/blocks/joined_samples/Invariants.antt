use Rattle.join_schedule.proofs.Sums.{AreSums}
use Rattle.join_schedule.proofs.blocks.joined_samples.Given as goal

abbrev pub invariant-loop-block : goal.invariant-loop-block
invariant-loop-block l =
    AreSums l.limits l.floor l.blocks l.block-index l.sums.samples l.sums.series l.sums.bytes
