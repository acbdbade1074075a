use Rattle.std.specs.Prelude.{◌≡◌}
use Rattle.waiting_room.proofs.room.wait_at.Given as goal

abbrev pub invariant-attended : goal.invariant-attended
invariant-attended g l = l.money.bytes ≡ 0
