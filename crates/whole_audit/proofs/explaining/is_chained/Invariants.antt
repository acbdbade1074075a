use Rattle.std.proofs.Common.{◌≡◌, drop}
use Rattle.whole_audit.specs.Taking.{is_chained}
use Rattle.whole_audit.proofs.explaining.is_chained.Given as goal

abbrev pub invariant-loop-at : goal.invariant-loop-at
invariant-loop-at l = is_chained (drop l.at l.certificate) ≡ is_chained l.certificate
