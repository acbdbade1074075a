use Rattle.store_folder.specs.StoreLaws.{may_start}
use Rattle.store_folder.proofs.laws.may_start.Goals as goal

pub returns : goal.returns
returns c saved parts events left state may = may_start saved parts events left state may
