use Rattle.std.specs.Prelude.{◌≡◌, ◌+◌, ◌-◌}
use Rattle.waiting_room.proofs.room.merge_all.Given as goal

abbrev pub invariant-merged : goal.invariant-merged
invariant-merged g l = (l.all.parts ≡ l.count + 1) × (l.all.amount ≡ 0)

abbrev pub decreases-merged : goal.decreases-merged
decreases-merged g l = l.most - l.count
