use Rattle.std.proofs.Common.{ℕ, ◌≤◌, ◌<◌, ◌-◌}
use Rattle.kept_world.specs.States.{numbered}
use Rattle.kept_world.specs.Births.{came_by}
use Rattle.state_search.proofs.run.first_shown.Given as goal

abbrev pub invariant-loop-low : goal.invariant-loop-low
invariant-loop-low g l = record {
  above : l.from ≤ l.low;
  order : l.low ≤ l.high;
  below : l.high ≤ l.until;
  holds : g.T.Told.shows l.told (numbered 1 (came_by l.high l.world.head));
  before : (p : ℕ) → l.from ≤ p → p < l.low → g.T.Told.shows l.told (numbered 1 (came_by p l.world.head)) → ⊥;
}

abbrev pub decreases-loop-low : goal.decreases-loop-low
decreases-loop-low g l = l.high - l.low
