use Rattle.std.proofs.Common.{take}
use Rattle.std.specs.List.{AllZip}
use Rattle.whole_audit.specs.Wholes.{IsRightOf}
use Rattle.whole_audit.proofs.wholes.are_right_blocks.Given as goal

abbrev pub invariant-loop-at : goal.invariant-loop-at
invariant-loop-at l = AllZip (IsRightOf l.query) (take l.at l.blocks) (take l.at l.parts)
