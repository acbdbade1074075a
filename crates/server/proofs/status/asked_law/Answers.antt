use Rattle.server.proofs.Once.{asked_once}
use Rattle.server.proofs.status.asked_law.Goals as goal

pub returns : goal.returns
returns c = asked_once
