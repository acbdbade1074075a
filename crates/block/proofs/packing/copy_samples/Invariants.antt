use Rattle.std.proofs.Common.{◌≡◌, take}
use Rattle.block.proofs.packing.copy_samples.Given as goal

abbrev pub invariant-loop-i : goal.invariant-loop-i
invariant-loop-i l = l.found.items ≡ take l.i l.samples
