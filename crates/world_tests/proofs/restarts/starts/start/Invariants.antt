use Rattle.std.specs.Prelude.{map}
use Rattle.head.specs.Blocks.{part_in}
use Rattle.store_folder.specs.States.{origin_of}
use Rattle.world_tests.proofs.restarts.starts.start.Given as goal

-- what the head and the blocks that were found say
abbrev pub ghosts-go_on : goal.ghosts-go_on
ghosts-go_on g a =
    record { first = origin_of a.found.journal.head (map part_in a.found.blocks.items) }
