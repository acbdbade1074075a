use Rattle.metrics_laws.proofs.Written.{written_again}
use Rattle.metrics_laws.proofs.laws.samples_are_written_again.Goals as goal

pub returns : goal.returns
returns c format places fractions text said rows is are =
    written_again format places fractions text said rows is are
