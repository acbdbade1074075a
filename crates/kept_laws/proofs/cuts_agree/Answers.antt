use Rattle.kept_laws.proofs.Cutting.{cuts_agree}
use Rattle.kept_laws.proofs.cuts_agree.Goals as goal

pub returns : goal.returns
returns c = λ fits s w t. cuts_agree fits s w t
