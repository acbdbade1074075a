use Rattle.metrics_laws.proofs.Numbers.{number_again}
use Rattle.metrics_laws.proofs.laws.numbers_are_read_again.Goals as goal

pub returns : goal.returns
returns c places v few small = number_again places v small
