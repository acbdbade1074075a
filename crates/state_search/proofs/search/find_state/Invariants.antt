use Rattle.std.proofs.Common.{◌≡◌}
use Rattle.kept_world.specs.Changes.{events_of}
use Rattle.state_search.proofs.Runs.{IsRun}
use Rattle.state_search.proofs.Finding.{IsKnown}
use Rattle.state_search.proofs.search.find_state.Given as goal

abbrev pub invariant-loop-i : goal.invariant-loop-i
invariant-loop-i g l = record {
  number : l.world.number ≡ l.i;
  run : IsRun l.fn.world (events_of l.changes) l.progress.from l.world;
  known : IsKnown (g.T.Told.right l.told) (g.T.Told.sound l.told) l.since l.fn.world (events_of l.changes) l.progress.from l.progress.found;
}
