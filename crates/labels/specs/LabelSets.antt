-- Which pairs make a label set, and what a label set is.
use Rattle.std.specs.Prelude.{◌≡◌, ◌≢◌, ◌≤◌, ℕ, Bool, false, not, ◌||◌, ◌==◌, List, [], ◌∷◌, Option}
use Rattle.std.specs.Prelude.{None, Some, IsTrue, length, nat_lt, filter, if◌then◌else◌}
use Rattle.std.specs.List.{All, list_all, list_any}
use Rattle.std.specs.List.Sorted.{IsPermutation}
use Rattle.std.specs.Str.{bytes_eq}
use Rattle.labels.specs.declared.error.LabelError.{LabelError}
use Rattle.labels.specs.declared.error.LabelError.TheVariants.{BadName, Repeated, Limit}
use Rattle.labels.specs.Labels.{Labels, IsByName, value_of}
use Rattle.labels.specs.Names.{is_name}

-- a label set: label names in strict order, each with a text that is not empty, at most 64 of them
pub record IsLabelSet (labels : Labels) : Type 0 where
  pub by_name : IsByName labels
  pub named : All (λ pair. IsTrue (is_name pair.0)) labels
  pub valued : All (λ pair. pair.1 ≢ []) labels
  pub few : length labels ≤ 64

-- whether each of the names is a label name
abbrev pub are_named : List (List ℕ × List ℕ) → Bool
are_named pairs = list_all (λ pair. is_name pair.0) pairs

-- whether two pairs have one name
abbrev pub same_name : List ℕ × List ℕ → List ℕ × List ℕ → Bool
same_name a b = bytes_eq a.0 b.0

-- whether some name stands twice, with whatever values
abbrev pub repeats : List (List ℕ × List ℕ) → Bool
repeats [] = false
repeats (pair ∷ pairs) = list_any (same_name pair) pairs || repeats pairs

-- whether a pair has a value that is not empty
abbrev pub has_value : List ℕ × List ℕ → Bool
has_value pair = not (length pair.1 == 0)

-- the pairs whose value is not empty
abbrev pub with_values : List (List ℕ × List ℕ) → List (List ℕ × List ℕ)
with_values pairs = filter has_value pairs

-- the first rule that pairs break, if they break one: each name is a label name, none stands twice,
-- and at most 64 have a value
abbrev pub refusal_of : List (List ℕ × List ℕ) → Option LabelError
refusal_of pairs =
    if not (are_named pairs) then Some BadName
    else if repeats pairs then Some Repeated
    else if nat_lt 64 (length (with_values pairs)) then Some Limit
    else None

-- the label set with exactly the pairs that have a value, in which each name has the value that the
-- pairs give it
pub record IsMadeOf (labels : Labels) (pairs : List (List ℕ × List ℕ)) : Type 0 where
  pub label_set : IsLabelSet labels
  pub same_pairs : IsPermutation (with_values pairs) labels
  pub values : (name : List ℕ) → value_of labels name ≡ value_of pairs name
