-- The labels of a series, by the numbers of their symbols.
use Rattle.std.specs.Prelude.{◌≡◌, ℕ, ◌+◌, ◌<◌, ◌≤◌, true, List, [], ◌∷◌, length, get_or}
use Rattle.labels.specs.Names.{is_name}
use Rattle.block_walk.specs.IndexFile.Layout.{Label}

-- a label of these symbols: its name is a label name that stands at this place or after it, its
-- value is not empty
pub record IsLabel (symbols : List (List ℕ)) (low : ℕ) (l : Label) : Type 0 where
  pub from : low ≤ l.0
  pub name_in : l.0 < length symbols
  pub value_in : l.1 < length symbols
  pub name : is_name (get_or symbols l.0 []) ≡ true
  pub value : 0 < length (get_or symbols l.1 [])

-- each name stands after the one before
abbrev pub AreLabels : List (List ℕ) → ℕ → List Label → Type 0
AreLabels symbols low [] = Unit {0}
AreLabels symbols low (l ∷ ls) = IsLabel symbols low l × AreLabels symbols (l.0 + 1) ls
