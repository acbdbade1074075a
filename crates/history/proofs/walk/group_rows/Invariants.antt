use Rattle.std.proofs.Common.{length}
use Rattle.history.proofs.Pushes.{AreRowsBefore}
use Rattle.history.proofs.walk.group_rows.Given as goal

abbrev pub invariant-loop-entry : goal.invariant-loop-entry
invariant-loop-entry l = AreRowsBefore l.rows.items l.content.entries l.fn.content.entries

abbrev pub decreases-loop-entry : goal.decreases-loop-entry
decreases-loop-entry l = length l.content.entries
