use Rattle.std.proofs.Common.{◌≡◌, length}
use Rattle.server.proofs.places.places_of.Given as goal

abbrev pub invariant-loop-seat : goal.invariant-loop-seat
invariant-loop-seat g l = length l.places.items ≡ length l.yielded
