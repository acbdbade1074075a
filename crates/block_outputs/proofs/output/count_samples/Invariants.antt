use Rattle.std.proofs.Common.{◌≡◌, ◌-◌, ◌^◌, min, take}
use Rattle.block_outputs.specs.Writing.{samples_in}
use Rattle.block_outputs.proofs.output.count_samples.Given as goal

abbrev pub invariant-loop-row : goal.invariant-loop-row
invariant-loop-row l = l.count ≡ min (samples_in (take l.row-index l.rows)) (2 ^ 64 - 1)
