use Rattle.std.proofs.Common.{◌≡◌, ◌++◌, map, take, drop}
use Rattle.kept_world.specs.States.{rest_of}
use Rattle.kept_world.proofs.head.raise_each.Given as goal

abbrev pub invariant-loop-one : goal.invariant-loop-one
invariant-loop-one l =
    l.series ≡ map (rest_of l.time) (take l.one-index l.fn.series) ++ drop l.one-index l.fn.series
