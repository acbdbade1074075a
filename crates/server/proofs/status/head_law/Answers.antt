use Rattle.server.proofs.Heads.{head_replied}
use Rattle.server.proofs.status.head_law.Goals as goal

pub returns : goal.returns
returns c = head_replied
