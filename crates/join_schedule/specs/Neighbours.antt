-- Two blocks side by side, where there are many.
use Rattle.std.specs.Prelude.{◌≡◌, ◌≤◌, ◌<◌, ℕ, ◌+◌, ℤ, List, length}
use Rattle.join_schedule.specs.declared.blocks.Shape.{Shape}
use Rattle.join_schedule.specs.declared.blocks.Limits.{Limits}
use Rattle.join_schedule.specs.declared.blocks.Run.{Run}
use Rattle.join_schedule.specs.Blocks.{IsRun, Fits, run_of, samples_in}

-- the block at a place and the next one
abbrev pub pair_at : ℕ → List Shape → List Shape
pair_at at blocks = run_of (record { at = at; count = 2 }) blocks

-- no two neighbours may become one block
abbrev pub NoNeighboursFit : Limits → ℤ → List Shape → Type 0
NoNeighboursFit limits floor blocks =
    (at : ℕ) → at + 2 ≤ length blocks → Fits limits floor (pair_at at blocks) → ⊥

-- of the neighbours that may become one block, these have the fewest samples
pub record AreLeastNeighbours (limits : Limits) (floor : ℤ) (blocks : List Shape)
    (run : Run) : Type 0 where
  pub is_run : IsRun blocks run
  pub two : run.count ≡ 2
  pub fits : Fits limits floor (run_of run blocks)
  pub least : (at : ℕ) → at + 2 ≤ length blocks → Fits limits floor (pair_at at blocks)
      → samples_in (run_of run blocks) ≤ samples_in (pair_at at blocks)

-- any two neighbours have more samples than so many
abbrev pub AllPairsExceed : ℕ → List Shape → Type 0
AllPairsExceed most blocks =
    (at : ℕ) → at + 2 ≤ length blocks → most < samples_in (pair_at at blocks)
