-- Blocks in which no sample is left.
use Rattle.std.specs.Prelude.{◌≡◌, ◌≤◌, ◌<◌, ◌+◌, List, length, take, drop, All}
use Rattle.join_schedule.specs.declared.blocks.Shape.{Shape}
use Rattle.block_upkeep.specs.declared.emptied.Stretch.{Stretch}

-- one block or more, side by side, in which no sample is left
pub record AreEmptied (blocks : List Shape) (stretch : Stretch) : Type 0 where
  pub some : 0 < stretch.count
  pub inside : stretch.at + stretch.count ≤ length blocks
  pub emptied : All (λ b. b.samples ≡ 0) (take stretch.count (drop stretch.at blocks))
