use Rattle.matchers.specs.Satisfies.{satisfies_all}
use Rattle.kept_laws.proofs.Deleting.{deletions_agree}
use Rattle.kept_laws.proofs.deletions_agree.Goals as goal

pub returns : goal.returns
returns c = λ s w ms from to. deletions_agree s w (satisfies_all ms) from to
