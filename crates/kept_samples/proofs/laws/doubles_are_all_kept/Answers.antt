use Rattle.kept_samples.proofs.AllDoubles.{keeps_doubles}
use Rattle.kept_samples.proofs.laws.doubles_are_all_kept.Goals as goal

pub returns : goal.returns
returns c asked samples old new counts counted is k =
    keeps_doubles asked is samples old new counts counted k
