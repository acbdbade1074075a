use Rattle.block_folder.specs.declared.values.Values.TheVariants.{Whole}
use Rattle.store_folder.specs.Origins.{beginning}
use Rattle.store_joiner.proofs.adding.begin_again.Given as goal

-- a store of whole numbers that has nothing
abbrev pub ghosts-begin : goal.ghosts-begin
ghosts-begin g a = record { first = beginning Whole }
