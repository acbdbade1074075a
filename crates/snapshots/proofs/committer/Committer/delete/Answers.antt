use Rattle.snapshots.proofs.Replaying.{deletion_refused}
use Rattle.snapshots.proofs.committer.Committer.delete.Goals as goal

pub returns-in-Err-clause-refused : goal.returns-in-Err-clause-refused
returns-in-Err-clause-refused g c =
    deletion_refused g.J.Naming.opening c.args.seat.now _ c.args.matchers.items _ _
    (rw c.deletion.ensures at c.in-Err.ensures.refused)
