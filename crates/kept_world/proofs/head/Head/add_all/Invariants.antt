use Rattle.std.proofs.Common.{◌≡◌, drop, Some}
use Rattle.kept_world.specs.States.{added_each, entries_of}
use Rattle.kept_world.proofs.head.Head.add_all.Given as goal

abbrev pub invariant-loop-run : goal.invariant-loop-run
invariant-loop-run l =
    added_each l.number l.floor (Some l.head) (entries_of (drop l.run-index l.runs))
    ≡ added_each l.number l.floor (Some l.fn.self) (entries_of l.runs)
