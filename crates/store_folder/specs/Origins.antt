-- Where a store begins.
use Rattle.std.specs.Prelude.{[]}
use Rattle.block_folder.specs.declared.values.Values.{Values}
use Rattle.head.specs.Blocks.{opening_of}
use Rattle.head.specs.Heads.{world_of}
use Rattle.head.specs.Worlds.{World}

-- the world before all events of a store, and what its values mean
pub record Origin : Type 0 where
  pub world : World
  pub values : Values

-- where a store that has nothing begins, whose values mean this
abbrev pub beginning : Values → Origin
beginning values = record { world = world_of (opening_of []); values = values }
