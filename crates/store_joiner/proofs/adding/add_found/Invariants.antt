use Rattle.std.proofs.Common.{map}
use Rattle.head.specs.Blocks.{part_in}
use Rattle.store_folder.specs.States.{origin_of}
use Rattle.store_joiner.proofs.adding.add_found.Given as goal

-- what the head and the blocks that were found say
abbrev pub ghosts-add_saved : goal.ghosts-add_saved
ghosts-add_saved g a = record {
  first = origin_of a.found.store.journal.head (map part_in a.found.store.blocks.items);
}
