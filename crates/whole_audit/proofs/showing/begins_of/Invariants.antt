use Rattle.std.proofs.Common.{◌≡◌, take}
use Rattle.cover.specs.Certificates.{begins_of}
use Rattle.whole_audit.proofs.showing.begins_of.Given as goal

abbrev pub invariant-loop-interval : goal.invariant-loop-interval
invariant-loop-interval l = l.begins.items ≡ begins_of (take l.interval-index l.certificate)
