-- Ascending lists of references as sets.
use Rattle.std.specs.Prelude.{ℕ, Bool, true, false, not, cond, List, [], ◌∷◌, nat_eq, nat_lt}
use Rattle.std.specs.List.{filter}

-- the ascending list with r in it
abbrev pub insert_ref : ℕ → List ℕ → List ℕ
insert_ref r [] = r ∷ []
insert_ref r (x ∷ xs) =
    cond (nat_lt r x) (r ∷ x ∷ xs) (cond (nat_eq r x) (x ∷ xs) (x ∷ insert_ref r xs))

-- the ascending list with each of these in it
abbrev pub insert_each : List ℕ → List ℕ → List ℕ
insert_each [] ys = ys
insert_each (x ∷ xs) ys = insert_ref x (insert_each xs ys)

-- what stands in some of the lists, ascending, each once
abbrev pub union_all : List (List ℕ) → List ℕ
union_all [] = []
union_all (xs ∷ xss) = insert_each xs (union_all xss)

-- whether a list has a number
abbrev pub has : List ℕ → ℕ → Bool
has [] r = false
has (x ∷ xs) r = cond (nat_eq x r) true (has xs r)

-- what stands in the first list and not in the second
abbrev pub difference : List ℕ → List ℕ → List ℕ
difference xs ys = filter (λ r. not (has ys r)) xs
