-- Which references a list has to have: those of the series that carry its pair.
use Rattle.std.specs.Prelude.{◌≡◌, ℕ, ◌<◌, true, List, [], ◌∷◌, length, get_or, Bool, ◌&&◌, ◌==◌}
use Rattle.std.specs.Prelude.{if◌then◌else◌, drop, slice_set, false}

-- a series carries a pair: the number of the pair in the table, and the series' reference
abbrev pub Carried : Type 0
Carried = ℕ × ℕ

-- the references of the series that carry pair k, in file order
unfoldable pub references_carrying : ℕ → List Carried → List ℕ
references_carrying k [] = []
references_carrying k (c ∷ cs) =
    if c.0 == k then c.1 ∷ references_carrying k cs else references_carrying k cs

-- each list is exactly the references of the series with its pair
abbrev pub ListsAgree : List (List ℕ) → List Carried → Type 0
ListsAgree lists carried =
    (k : ℕ) → k < length lists → get_or lists k [] ≡ references_carrying k carried

-- The same as a test: the lists are used up, one reference after the other, in the order in which
-- the series carry them.
abbrev pub is_first : ℕ → List ℕ → Bool
is_first r [] = false
is_first r (x ∷ xs) = x == r

-- whether no list has anything left
unfoldable pub all_empty : List (List ℕ) → Bool
all_empty [] = true
all_empty ([] ∷ xs) = all_empty xs
all_empty ((x ∷ ys) ∷ xs) = false

-- whether each series finds its reference at the front of the list of each of its pairs, and
-- nothing is left
unfoldable pub are_used_up : List (List ℕ) → List Carried → Bool
are_used_up rests [] = all_empty rests
are_used_up rests (c ∷ cs) =
    is_first c.1 (get_or rests c.0 [])
    && are_used_up (slice_set rests c.0 (drop 1 (get_or rests c.0 []))) cs
