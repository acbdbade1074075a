use Rattle.std.proofs.Common.{◌≡◌, drop, pos, ◌-ℤ◌}
use Rattle.labels.specs.declared.sample.TheConstants.{MIN_TIME}
use Rattle.chunk_reader.specs.Reading.{rises}
use Rattle.chunk_reader.proofs.samples.are_rising.Given as goal

abbrev pub invariant-loop-i : goal.invariant-loop-i
invariant-loop-i l = rises l.before (drop l.i l.samples) ≡ rises (MIN_TIME -ℤ pos 1) l.samples
