-- Blocks beneath those of a store.
use Rattle.std.specs.Prelude.{ℤ, List, ◌+◌, ◌++◌, length, []}
use Rattle.std.specs.Int.{int_max}
use Rattle.labels.specs.Parts.{laid_over, over}
use Rattle.head.specs.Heads.{BlockPart, SnapshotParts}
use Rattle.head.specs.Resuming.{resumed}
use Rattle.head.specs.Worlds.{World}
use Rattle.head_record.specs.Saved.{Saved}
use Rattle.head.specs.Joins.{parts_in}

-- the snapshot of a head and its own blocks, with these before them, and a floor no lower than this
abbrev pub beneath : List BlockPart → ℤ → Saved → List BlockPart → SnapshotParts
beneath blocks floor saved own = resumed (blocks ++ own) (int_max saved.floor floor) saved.head

-- the world with its content laid over that of the blocks: where both have a sample of one label
-- set at one time, the world's own stands
abbrev pub with_beneath : List BlockPart → ℤ → World → World
with_beneath blocks floor w = record {
  content = laid_over w.content (over [] (parts_in blocks));
  newest = w.newest;
  floor = int_max w.floor floor;
  blocks = length blocks + w.blocks;
}
