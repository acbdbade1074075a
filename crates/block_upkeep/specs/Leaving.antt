-- What leaves a store.
use Rattle.std.specs.Prelude.{◌≤◌, ◌<◌, ◌⊎◌, ℤ, List, All, IfSome, IsSomeAnd}
use Rattle.join_schedule.specs.declared.blocks.Shape.{Shape}
use Rattle.join_schedule.specs.Blocks.{bytes_in}
use Rattle.join_schedule.specs.Expiry.{IsExpired, IsLastExpired, IsLeastEnd}
use Rattle.block_upkeep.specs.declared.leaving.Task.{Task}
use Rattle.block_upkeep.specs.declared.leaving.Task.TheVariants.{Remove, Expire}
use Rattle.block_upkeep.specs.declared.limits.Upkeep.{Upkeep}
use Rattle.block_upkeep.specs.Emptied.{AreEmptied}

-- samples before the time leave: they have been kept for long enough, or the blocks have too many
-- bytes
abbrev pub IsLeaving : Upkeep → ℤ → ℤ → List Shape → ℤ → Type 0
IsLeaving upkeep floor now blocks time =
    IsSomeAnd upkeep.keep (λ keep. IsLastExpired floor now keep blocks time)
    ⊎ IsSomeAnd upkeep.keep_bytes (λ most. IsLeastEnd most blocks time)

-- no block has been kept for long enough, and together they have no more bytes than they may
pub record StaysAll (upkeep : Upkeep) (floor now : ℤ) (blocks : List Shape) : Type 0 where
  pub young : IfSome upkeep.keep (λ keep. All (λ b. IsExpired floor now keep b.to → ⊥) blocks)
  pub few : IfSome upkeep.keep_bytes (λ most. bytes_in blocks ≤ most)

-- what is done: blocks leave in which no sample is left; or, if each has one, samples leave
abbrev pub IsTask : Upkeep → ℤ → ℤ → List Shape → Task → Type 0
IsTask upkeep floor now blocks (Remove stretch) = AreEmptied blocks stretch
IsTask upkeep floor now blocks (Expire time) =
    All (λ b. 0 < b.samples) blocks × IsLeaving upkeep floor now blocks time
