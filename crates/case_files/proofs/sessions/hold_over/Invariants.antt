use Rattle.std.specs.Prelude.{map, []}
use Rattle.head.specs.Blocks.{part_in, opening_of}
use Rattle.case_files.proofs.sessions.hold_over.Given as goal

-- the store that was just made, over the blocks that were opened
abbrev pub ghosts-hold : goal.ghosts-hold
ghosts-hold g a = record {
  book = a.store.seen.book;
  opening = opening_of (map part_in a.blocks.items);
  before = [];
  asked = λ event seat place. Unit {0};
  kept = λ entries. Unit {0};
}
