use Rattle.kept_laws.proofs.Replaying.{replays_agree}
use Rattle.kept_laws.proofs.replays_agree.Goals as goal

pub returns : goal.returns
returns c = λ s w events. replays_agree s w events
