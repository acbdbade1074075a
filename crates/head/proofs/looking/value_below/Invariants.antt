use Rattle.std.specs.Prelude.{◌≡◌, ◌≤◌, length}
use Rattle.std.proofs.Common.{take}
use Rattle.head.specs.Looking.{blocks_value}
use Rattle.head.proofs.looking.value_below.Given as goal

-- none of the blocks behind has a sample there
abbrev pub invariant-loop-left : goal.invariant-loop-left
invariant-loop-left l = record {
  within : l.left ≤ length l.blocks;
  same : blocks_value (l.labels, l.t) l.blocks ≡ blocks_value (l.labels, l.t) (take l.left l.blocks);
}

abbrev pub decreases-loop-left : goal.decreases-loop-left
decreases-loop-left l = l.left
