-- Times at which a store is cut by itself.
use Rattle.std.specs.Prelude.{◌≡◌, ◌≤◌, ℕ, ◌*◌, ℤ, pos, ◌+ℤ◌, ◌≤ℤ◌, ◌<ℤ◌, unsigned_abs}

-- the time is so many times a number of milliseconds, counted from 0 on or back
pub record IsMultiple (every : ℕ) (time : ℤ) : Type 0 where
  pub times : ℕ
  pub is : unsigned_abs time ≡ times * every

-- A cut at this time is due: it is at a multiple of `every` and above the floor, and `after`
-- milliseconds later is neither behind the newest sample nor behind the clock.
pub record IsDue (every after : ℕ) (newest now floor time : ℤ) : Type 0 where
  pub multiple : IsMultiple every time
  pub above : floor <ℤ time
  pub sampled : (time +ℤ pos after) ≤ℤ newest
  pub passed : (time +ℤ pos after) ≤ℤ now

-- a cut at this time is due, and none at a later one
pub record IsLastDue (every after : ℕ) (newest now floor time : ℤ) : Type 0 where
  pub is_due : IsDue every after newest now floor time
  pub last : (t : ℤ) → IsDue every after newest now floor t → t ≤ℤ time

-- so many milliseconds, of which two sums stay within 64 bits
abbrev pub IsSpan : ℕ → Type 0
IsSpan n = n ≤ 4611686018427387903
