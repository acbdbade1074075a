use Rattle.std.proofs.Common.{map}
use Rattle.head.specs.Blocks.{part_in}
use Rattle.store_folder.specs.States.{origin_of}
use Rattle.store_joiner.proofs.opened.save.Given as goal

-- what the head and the blocks that were found say
abbrev pub ghosts-save_events : goal.ghosts-save_events
ghosts-save_events g a = record {
  first = origin_of a.found.store.journal.head (map part_in a.found.store.blocks.items);
}
