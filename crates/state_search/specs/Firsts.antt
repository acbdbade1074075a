-- The first place of a run at which something holds.
use Rattle.std.specs.Prelude.{ℕ, ◌≤◌, ◌<◌, List}
use Rattle.kept_world.specs.States.{HeadSeries}
use Rattle.kept_world.specs.Births.{came_by, IsPartOf}

-- a later head of a run has what an earlier one has (`kept_world::places_grow` says so)
abbrev pub GrowsBetween : ℕ → ℕ → List HeadSeries → Type 0
GrowsBetween from until head =
    (p : ℕ) (q : ℕ) → from ≤ p → p ≤ q → q ≤ until → IsPartOf (came_by p head) (came_by q head)

pub record IsFirst (holds_at : ℕ → Type 0) (from : ℕ) (until : ℕ) (n : ℕ) : Type 0 where
  pub above : from ≤ n
  pub below : n ≤ until
  pub holds : holds_at n
  pub before : (p : ℕ) → from ≤ p → p < n → holds_at p → ⊥

abbrev pub IsNowhere : (ℕ → Type 0) → ℕ → ℕ → Type 0
IsNowhere holds_at from until = (p : ℕ) → from ≤ p → p ≤ until → holds_at p → ⊥
