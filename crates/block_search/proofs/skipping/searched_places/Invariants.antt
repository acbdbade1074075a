use Rattle.std.proofs.Common.{◌≡◌, ◌++◌, map, take, drop}
use Rattle.std.specs.List.{All}
use Rattle.head.specs.Blocks.{part_in}
use Rattle.block_search.specs.Places.{block_places}
use Rattle.block_search.proofs.Skips.{IsSilent}
use Rattle.block_search.proofs.skipping.searched_places.Given as goal

-- the places so far and those to come; the blocks so far have no sample in the range where they are
-- skipped
abbrev pub invariant-loop-n : goal.invariant-loop-n
invariant-loop-n l = record {
  so_far : l.places.items ++ block_places l.query l.n (map part_in (drop l.n l.blocks))
      ≡ block_places l.query 0 (map part_in l.blocks);
  silent : All (IsSilent l.query) (take l.n l.blocks);
}
