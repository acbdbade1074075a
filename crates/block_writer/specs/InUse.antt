-- What the rows of a part use: texts, and pairs of a name and a value.
use Rattle.std.specs.Prelude.{◌⊎◌, ℕ, List, [], ◌∷◌}
use Rattle.std.specs.List.{flat_map, Contains}
use Rattle.std.specs.List.Sorted.{IsStrictlySortedBy}
use Rattle.std.specs.declared.cmp.Ordering.{Ordering}
use Rattle.labels.specs.Labels.{Labels}
use Rattle.labels.specs.Rows.{Row}

-- the name and the value of each label
abbrev pub label_texts : Labels → List (List ℕ)
label_texts labels = flat_map (λ p. p.0 ∷ p.1 ∷ []) labels

-- the names and the values of all rows
abbrev pub texts_in : List Row → List (List ℕ)
texts_in rows = flat_map (λ (row : Row). label_texts row.0) rows

-- the pairs of all rows
abbrev pub pairs_in : List Row → List (List ℕ × List ℕ)
pairs_in rows = flat_map (λ (row : Row). row.0) rows

-- strictly ascending, and exactly those of a list
pub record HoldsEachOnce {X : Type 0} (cmp : X → X → Ordering) (all each : List X) : Type 0 where
  pub ascending : IsStrictlySortedBy cmp each
  pub in_use : (x : X) → Contains each x → Contains all x
  pub held : (x : X) → Contains all x → Contains each x

-- exactly those of a list, in whichever order and however often
pub record HoldsThose {X : Type 0} (all each : List X) : Type 0 where
  pub in_use : (x : X) → Contains each x → Contains all x
  pub held : (x : X) → Contains all x → Contains each x

-- exactly those of two lists
pub record HoldsAlso {X : Type 0} (old added new : List X) : Type 0 where
  pub kept : (x : X) → Contains old x → Contains new x
  pub more : (x : X) → Contains added x → Contains new x
  pub only : (x : X) → Contains new x → Contains old x ⊎ Contains added x
