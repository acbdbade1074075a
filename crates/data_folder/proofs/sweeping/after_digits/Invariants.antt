use Rattle.std.proofs.Common.{◌≡◌, length}
use Rattle.data_folder.specs.Sweeping.{after_digits}
use Rattle.data_folder.proofs.sweeping.after_digits.Given as goal

abbrev pub invariant-loop-byte : goal.invariant-loop-byte
invariant-loop-byte l = after_digits l.text ≡ after_digits l.rest

abbrev pub decreases-loop-byte : goal.decreases-loop-byte
decreases-loop-byte l = length l.rest
