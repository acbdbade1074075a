use Rattle.std.proofs.Common.{◌≡◌, ◌++◌, drop}
use Rattle.kept_world.specs.Births.{came_by}
use Rattle.kept_world.proofs.head.came_by.Given as goal

abbrev pub invariant-loop-one : goal.invariant-loop-one
invariant-loop-one l = l.rows ++ came_by l.number (drop l.one-index l.series) ≡ came_by l.number l.series
