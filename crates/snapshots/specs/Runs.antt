-- Blocks that are to be joined.
use Rattle.std.specs.Prelude.{ℕ, ◌<◌, List, length}
use Rattle.head.specs.Heads.{BlockPart}
use Rattle.head.specs.Joins.{HoldSame}
use Rattle.head.specs.Worlds.{Event, joined}

-- the place of blocks that stand side by side in a store, and those that are to take it
pub record RunView : Type 0 where
  pub at : ℕ
  pub was : List BlockPart
  pub made : List BlockPart

-- the new ones are fewer, and hold the same
pub record IsJoinable (run : RunView) : Type 0 where
  pub fewer : length run.made < length run.was
  pub same : HoldSame run.was run.made

-- the event that it is
abbrev pub join_of : RunView → Event
join_of run = joined run.at (length run.was) (length run.made)
