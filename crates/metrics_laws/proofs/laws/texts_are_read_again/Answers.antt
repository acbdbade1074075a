use Rattle.metrics_laws.proofs.Texts.{texts_again}
use Rattle.metrics_laws.proofs.laws.texts_are_read_again.Goals as goal

pub returns : goal.returns
returns c places fractions rows few all = texts_again places fractions rows all
