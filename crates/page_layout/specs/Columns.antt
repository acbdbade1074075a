-- Columns of things.
use Rattle.std.specs.Prelude.{◌≡◌, ℕ, ◌+◌, ◌*◌, ◌/◌, ◌<◌, ◌≤◌}

-- how many of the things stand before a column
abbrev pub edge : ℕ → ℕ → ℕ → ℕ
edge columns count column = column * count / columns

-- thing i, from 0, stands in a column
abbrev pub IsIn : ℕ → ℕ → ℕ → ℕ → Type 0
IsIn columns count i column =
    (column < columns) × (edge columns count column ≤ i) × (i < edge columns count (column + 1))

-- each thing stands in exactly one column; none is empty, and their sizes differ by at most 1
pub record IsPartition (columns count : ℕ) : Type 0 where
  pub first : edge columns count 0 ≡ 0
  pub last : edge columns count columns ≡ count
  pub placed : (i : ℕ) → i < count → (column : ℕ) × IsIn columns count i column
  pub once : (i a b : ℕ) → IsIn columns count i a → IsIn columns count i b → a ≡ b
  pub least : (column : ℕ) → edge columns count column + count / columns
      ≤ edge columns count (column + 1)
  pub most : (column : ℕ) → edge columns count (column + 1)
      ≤ edge columns count column + count / columns + 1
  pub some : 0 < count / columns
