use Rattle.std.specs.Prelude.{◌≡◌, length}
use Rattle.waiting_room.proofs.room.jobs_of.Given as goal

abbrev pub invariant-loop-worker : goal.invariant-loop-worker
invariant-loop-worker g l = length l.jobs.items ≡ length l.yielded
