use Rattle.std.proofs.Common.{◌≡◌, drop, []}
use Rattle.kept_world.specs.States.{rows_below}
use Rattle.kept_world.proofs.head.rows_below.Given as goal

abbrev pub invariant-loop-one : goal.invariant-loop-one
invariant-loop-one l = rows_below l.time l.rows (drop l.one-index l.series) ≡ rows_below l.time [] l.series
