use Rattle.metrics_laws.proofs.Together.{texts_grouped}
use Rattle.metrics_laws.proofs.laws.texts_are_grouped.Goals as goal

pub returns : goal.returns
returns c places rows few all = texts_grouped places rows all
