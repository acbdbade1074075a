-- A place in a list, and how much was read to find it.
use Rattle.std.specs.Prelude.{◌≡◌, ◌+◌, ◌≤◌, ◌<◌, ◌^◌, ℕ, List, Option, length, slice_get}
use Rattle.std.specs.List.Sorted.{IsStrictlyIncreasing}

-- a place in ascending references, and the reference there
pub record IsAtPlace (refs : List ℕ) (at : ℕ) (head : Option ℕ) : Type 0 where
  pub within : at ≤ length refs
  pub increasing : IsStrictlyIncreasing refs
  pub head_is : head ≡ slice_get refs at

-- at most as many as the number has binary digits
abbrev pub IsWithinDigits : ℕ → ℕ → Type 0
IsWithinDigits number count = (digits : ℕ) → number < 2 ^ digits → count ≤ digits

-- a count of reads went up by no more than the number has binary digits
pub record HasReadWithinDigits (number before after : ℕ) : Type 0 where
  pub reads : ℕ
  pub added : after ≡ before + reads
  pub few : IsWithinDigits number reads

-- a count of reads went up by one or stayed
pub record HasReadOne (before after : ℕ) : Type 0 where
  pub rises : before ≤ after
  pub few : after ≤ before + 1
