-- Blocks side by side, and which of them may become one.
use Rattle.std.specs.Prelude.{◌≤◌, ◌<◌, ℕ, ◌+◌, ℤ, ◌≤ℤ◌, List, length, take, drop, sum_by, All}
use Rattle.join_schedule.specs.declared.blocks.Shape.{Shape}
use Rattle.join_schedule.specs.declared.blocks.Limits.{Limits}
use Rattle.join_schedule.specs.declared.blocks.Run.{Run}

-- the samples, series and bytes of blocks together, a series once for each block that has it
abbrev pub samples_in : List Shape → ℕ
samples_in blocks = sum_by (λ b. b.samples) blocks

abbrev pub series_in : List Shape → ℕ
series_in blocks = sum_by (λ b. b.series) blocks

abbrev pub bytes_in : List Shape → ℕ
bytes_in blocks = sum_by (λ b. b.bytes) blocks

-- two blocks or more, side by side
pub record IsRun (blocks : List Shape) (run : Run) : Type 0 where
  pub several : 1 < run.count
  pub inside : run.at + run.count ≤ length blocks

-- the blocks of a run
abbrev pub run_of : Run → List Shape → List Shape
run_of run blocks = take run.count (drop run.at blocks)

-- blocks may become one: together they have no more than one may have, and all of them have ended
pub record Fits (limits : Limits) (floor : ℤ) (blocks : List Shape) : Type 0 where
  pub samples : samples_in blocks ≤ limits.samples
  pub series : series_in blocks ≤ limits.series
  pub bytes : bytes_in blocks ≤ limits.bytes
  pub ended : All (λ b. b.to ≤ℤ floor) blocks
