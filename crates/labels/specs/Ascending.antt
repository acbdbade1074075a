-- Ascending lists of references.
use Rattle.std.specs.Prelude.{ℕ, List, [], ◌∷◌, Option, None, Some, nat_le, filter}

-- the first of a list, if any
abbrev pub first_of : List ℕ → Option ℕ
first_of [] = None
first_of (r ∷ rs) = Some r

-- the list without its first
abbrev pub rest_of : List ℕ → List ℕ
rest_of [] = []
rest_of (r ∷ rs) = rs

-- what is not below the target
abbrev pub not_below : ℕ → List ℕ → List ℕ
not_below target rs = filter (λ r. nat_le target r) rs

-- the first of a list, or the end of all references
abbrev pub first_or_end : List ℕ → ℕ
first_or_end [] = 4294967296
first_or_end (r ∷ rs) = r

-- the reference, or the end of all references
abbrev pub or_end : Option ℕ → ℕ
or_end None = 4294967296
or_end (Some r) = r
