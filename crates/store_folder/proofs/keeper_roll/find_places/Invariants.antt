use Rattle.std.proofs.Common.{◌≡◌, drop, length, map}
use Rattle.head.specs.Blocks.{part_in}
use Rattle.store_folder.proofs.Found.{GoesOn}
use Rattle.store_folder.proofs.keeper_roll.find_places.Given as goal

-- of each block so far it is known, and the others are looked for behind those that were found
abbrev pub invariant-loop-block : goal.invariant-loop-block
invariant-loop-block l = record {
  many : length l.found.items ≡ l.block-index;
  goes : GoesOn l.places (map part_in l.others) (map part_in l.blocks) l.from l.found.items
      (map part_in (drop l.block-index l.blocks));
}
