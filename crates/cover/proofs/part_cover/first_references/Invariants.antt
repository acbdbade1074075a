use Rattle.std.proofs.Common.{◌≡◌, take}
use Rattle.cover.specs.Certificates.{begins_of}
use Rattle.cover.proofs.part_cover.first_references.Given as goal

abbrev pub invariant-loop-interval : goal.invariant-loop-interval
invariant-loop-interval l = l.first.items ≡ begins_of (take l.interval-index l.certificate)
