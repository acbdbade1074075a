use Rattle.std.proofs.Common.{◌-◌, ◌≤◌}
use Rattle.head.proofs.reference_list.ReferenceList.place_past.Given as goal

abbrev pub invariant-loop-place : goal.invariant-loop-place
invariant-loop-place l = (l.self.place ≤ l.place) × (l.place ≤ l.end)

abbrev pub decreases-loop-place : goal.decreases-loop-place
decreases-loop-place l = l.end - l.place
