use Rattle.store_folder.specs.StoreLaws.{one_meaning}
use Rattle.store_folder.proofs.laws.one_meaning.Goals as goal

pub returns : goal.returns
returns c first events left s = one_meaning first events left s
