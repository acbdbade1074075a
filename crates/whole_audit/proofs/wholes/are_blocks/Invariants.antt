use Rattle.std.proofs.Common.{◌≡◌, drop}
use Rattle.whole_audit.specs.Grading.{are_blocks_from}
use Rattle.whole_audit.proofs.wholes.are_blocks.Given as goal

abbrev pub invariant-loop-at : goal.invariant-loop-at
invariant-loop-at l = are_blocks_from l.at (drop l.at l.parts) ≡ are_blocks_from 0 l.parts
