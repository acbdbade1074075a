-- Windows of time: 3, 9, 27, .. cuts, each at a multiple of its length.
use Rattle.std.specs.Prelude.{◌≡◌, ◌⊎◌, ◌≤◌, ◌<◌, ℕ, ◌+◌, ◌*◌, ◌^◌, ℤ, pos, ◌-ℤ◌, ◌≤ℤ◌, ◌<ℤ◌}
use Rattle.std.specs.Prelude.{unsigned_abs, List, Some, All, slice_get, IfSome}
use Rattle.join_schedule.specs.declared.blocks.Shape.{Shape}
use Rattle.join_schedule.specs.declared.blocks.Limits.{Limits}
use Rattle.join_schedule.specs.declared.blocks.Run.{Run}
use Rattle.join_schedule.specs.Blocks.{IsRun, Fits, run_of}

-- the time is so many times a number of milliseconds, counted from 0 on or back
pub record IsMultiple (every : ℕ) (time : ℤ) : Type 0 where
  pub times : ℕ
  pub is : unsigned_abs time ≡ times * every

-- so many milliseconds, of which there is room for one multiple at least among the times
abbrev pub IsSpan : ℕ → Type 0
IsSpan n = (0 < n) × (n ≤ 9223372036854775807)

-- how long windows are: a power of three of cuts, and no longer than the longest
pub record IsWindowSpan (limits : Limits) (span : ℕ) : Type 0 where
  pub power : ℕ
  pub cuts : span ≡ limits.cut * 3 ^ (power + 1)
  pub not_longer : IfSome limits.longest_window (λ n. span ≤ n)
  pub is_span : IsSpan span

-- the block lies in the window of this span that ends there
pub record LiesIn (span : ℕ) (end : ℤ) (block : Shape) : Type 0 where
  pub begins : (end -ℤ pos span) ≤ℤ block.from
  pub before : block.from <ℤ end
  pub ends : block.to ≤ℤ end

-- The window of this span that ends there is closed, and the run is what lies in it: two blocks or
-- more, side by side, and neither the one before them nor the one behind them.
pub record IsWindow (floor : ℤ) (blocks : List Shape) (span : ℕ) (end : ℤ)
    (run : Run) : Type 0 where
  pub multiple : IsMultiple span end
  pub closed : end ≤ℤ floor
  pub is_run : IsRun blocks run
  pub inside : All (LiesIn span end) (run_of run blocks)
  pub before : (at : ℕ) (b : Shape) → at + 1 ≡ run.at → slice_get blocks at ≡ Some b
      → LiesIn span end b → ⊥
  pub behind : (b : Shape) → slice_get blocks (run.at + run.count) ≡ Some b
      → LiesIn span end b → ⊥

-- the run is that of a window of this span, and may become one block
pub record FillsWindow (limits : Limits) (floor : ℤ) (blocks : List Shape) (span : ℕ)
    (run : Run) : Type 0 where
  pub end : ℤ
  pub window : IsWindow floor blocks span end run
  pub fits : Fits limits floor (run_of run blocks)

-- no window's blocks may become one
abbrev pub NoWindowFits : Limits → ℤ → List Shape → Type 0
NoWindowFits limits floor blocks =
    (span : ℕ) (run : Run) → IsWindowSpan limits span → FillsWindow limits floor blocks span run → ⊥

-- the blocks of this window may become one, and of no shorter window, nor of one as long before it
pub record IsFirstWindow (limits : Limits) (floor : ℤ) (blocks : List Shape)
    (run : Run) : Type 0 where
  pub span : ℕ
  pub is_span : IsWindowSpan limits span
  pub fills : FillsWindow limits floor blocks span run
  pub first : (n : ℕ) (other : Run) → IsWindowSpan limits n
      → FillsWindow limits floor blocks n other
      → (span < n) ⊎ ((span ≡ n) × (run.at ≤ other.at))
