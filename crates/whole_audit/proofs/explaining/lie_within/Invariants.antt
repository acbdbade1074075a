use Rattle.std.proofs.Common.{◌≡◌, drop}
use Rattle.whole_audit.specs.Taking.{lie_within}
use Rattle.whole_audit.proofs.explaining.lie_within.Given as goal

abbrev pub invariant-loop-interval : goal.invariant-loop-interval
invariant-loop-interval l =
    lie_within l.rest (drop l.interval-index l.certificate) ≡ lie_within l.numbers l.certificate
