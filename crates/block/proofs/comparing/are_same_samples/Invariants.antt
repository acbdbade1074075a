use Rattle.std.proofs.Common.{◌≡◌, take}
use Rattle.block.proofs.comparing.are_same_samples.Given as goal

abbrev pub invariant-loop-i : goal.invariant-loop-i
invariant-loop-i l = take l.i l.samples ≡ take l.i l.others
