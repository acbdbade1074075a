use Rattle.std.proofs.Common.{map, []}
use Rattle.head.specs.Blocks.{part_in, opening_of}
use Rattle.commands.proofs.serve.serve_directories.Given as goal

-- the store that was just made, over the blocks that were opened
abbrev pub ghosts-serve_blocks : goal.ghosts-serve_blocks
ghosts-serve_blocks g a = record {
  book = a.store.seen.book;
  opening = opening_of (map part_in a.blocks.items);
  before = [];
  asked = λ event seat place. Unit {0};
  kept = λ entries. Unit {0};
}
