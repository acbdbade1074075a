use Rattle.kept_laws.proofs.Adding.{batches_agree}
use Rattle.kept_laws.proofs.batches_agree.Goals as goal

pub returns : goal.returns
returns c = λ s w runs. batches_agree s w runs
