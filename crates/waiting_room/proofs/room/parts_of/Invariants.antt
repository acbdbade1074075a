use Rattle.std.specs.Prelude.{◌≡◌, ◌+◌}
use Rattle.waiting_room.proofs.room.parts_of.Given as goal

abbrev pub invariant-cut : goal.invariant-cut
invariant-cut g l = (l.all.parts + l._i ≡ l.count + 1) × (l.all.amount ≡ 0)
