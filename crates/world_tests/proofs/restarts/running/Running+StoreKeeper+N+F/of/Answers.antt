use Rattle.std.proofs.Common.{inl}
use Rattle.world_tests.proofs.restarts.running.Running+StoreKeeper+N+F.of.Goals as goal

pub invariant_of-result : goal.invariant_of-result
invariant_of-result g c = (
  c.args.started.journal.events.items,
  inl c.requires.holds,
  c.requires.world,
  λ all. tt,
)
