use Rattle.whole_audit.proofs.Sampled.{explained_anew}
use Rattle.whole_audit.proofs.explaining.explaining_laws.Goals as goal

pub returns : goal.returns
returns c = explained_anew
