-- Series named by number: the texts of the label sets, in the order in which they were named. The
-- number of one is its place.
use Rattle.std.specs.Prelude.{◌≡◌, ℕ, zero, suc, Bool, List, [], ◌∷◌, length, take, ◌==◌}
use Rattle.std.specs.Prelude.{if◌then◌else◌}
use Rattle.std.specs.Str.{bytes_eq}

-- a label set, by its text
abbrev pub Label : Type 0
Label = List ℕ

-- the place of a label set, or how many are named
abbrev pub number_of : Label → List Label → ℕ
number_of l [] = zero
number_of l (m ∷ ms) = if bytes_eq m l then zero else suc (number_of l ms)

-- whether it has no number yet
abbrev pub is_new : Label → List Label → Bool
is_new l names = number_of l names == length names

-- the names begin with those before
abbrev pub BeginWith : List Label → List Label → Type 0
BeginWith before names = take (length before) names ≡ before
