use Rattle.std.proofs.Common.{length}
use Rattle.block_joiner.proofs.runs.+halves.Given as goal

abbrev pub decreases-join_into : goal.decreases-join_into
decreases-join_into l = length l.blocks.now
