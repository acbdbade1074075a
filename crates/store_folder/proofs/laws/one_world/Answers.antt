use Rattle.store_folder.specs.StoreLaws.{one_world}
use Rattle.store_folder.proofs.laws.one_world.Goals as goal

pub returns : goal.returns
returns c left v w one two = one_world left v w one two
