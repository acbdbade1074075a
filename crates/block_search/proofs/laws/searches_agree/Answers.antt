use Rattle.block_search.specs.Skipping.{searched_parts}
use Rattle.block_search.proofs.Agreement.{all_agree}
use Rattle.block_search.proofs.laws.searches_agree.Goals as goal

pub returns : goal.returns
returns c = λ query s xs ys. all_agree query (searched_parts query s) xs ys
