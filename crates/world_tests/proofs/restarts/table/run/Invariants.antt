use Rattle.block_folder.specs.declared.values.Values.TheVariants.{Whole}
use Rattle.store_folder.specs.Origins.{beginning}
use Rattle.world_tests.proofs.restarts.table.run.Given as goal

-- a store of whole numbers that has nothing
abbrev pub ghosts-run_session : goal.ghosts-run_session
ghosts-run_session g a = record { first = beginning Whole }
