use Rattle.std.proofs.Common.{◌≡◌}
use Rattle.snapshots.proofs.publishing.show.Given as goal

abbrev pub invariant-loop : goal.invariant-loop
invariant-loop g l =
    (goal.iterator-loop g).can_next l.iterator' × (goal.iterator-loop g).is_finite l.iterator'
    × (l.press.desk.shown.value.version ≡ l.initial.press.desk.shown.value.version)
