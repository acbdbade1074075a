use Rattle.std.proofs.Common.{◌≡◌, drop, Some}
use Rattle.kept_world.specs.States.{added_each, entries_in}
use Rattle.kept_world.proofs.head.Head.add_run.Given as goal

abbrev pub invariant-loop-sample : goal.invariant-loop-sample
invariant-loop-sample l =
    added_each l.fn.number l.floor (Some l.head) (entries_in l.run.0 (drop l.sample-index l.run.1))
    ≡ added_each l.fn.number l.floor (Some l.fn.self) (entries_in l.run.0 l.run.1)
