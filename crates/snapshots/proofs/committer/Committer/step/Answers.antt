use Rattle.snapshots.proofs.Keeps.{of_store}
use Rattle.snapshots.proofs.committer.Committer.step.Goals as goal

pub returns-in-Err-clause-refused : goal.returns-in-Err-clause-refused
returns-in-Err-clause-refused g c = λ other. absurd (other (of_store c.in-Err.error c.in-Err.ensures.refused))
