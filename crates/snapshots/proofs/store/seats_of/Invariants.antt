use Rattle.std.proofs.Common.{◌≡◌, vec_len}
use Rattle.snapshots.specs.Seats.{AreFresh}
use Rattle.snapshots.proofs.store.seats_of.Given as goal

abbrev pub invariant-loop-number : goal.invariant-loop-number
invariant-loop-number g l = (vec_len l.seats ≡ l.number) × AreFresh 0 l.seats.items
