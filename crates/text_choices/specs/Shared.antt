-- How far texts go together: what a scan of many texts may skip.
use Rattle.std.specs.Prelude.{◌≡◌, ℕ, zero, suc, List, [], ◌∷◌, if◌then◌else◌}
use Rattle.text_choices.specs.Alternatives.{takes}
use Rattle.text_choices.specs.declared.atom.Atom.{Atom}
use Rattle.text_choices.specs.declared.alternative.Alternative.{Alternative}

-- both begin with the same n atoms
abbrev pub Share : ℕ → List Atom → List Atom → Type 0
Share zero xs ys = Unit {0}
Share (suc n) [] ys = ⊥
Share (suc n) (x ∷ xs) [] = ⊥
Share (suc n) (x ∷ xs) (y ∷ ys) = (x ≡ y) × Share n xs ys

-- each shares as many atoms as it says with the one before it
abbrev pub AreShared : List Atom → List Alternative → Type 0
AreShared before [] = Unit {0}
AreShared before (one ∷ others) =
    Share one.shared before one.atoms.items × AreShared one.atoms.items others

-- how many atoms at the front stand for the characters at the front
abbrev pub lead : List Atom → List ℕ → ℕ
lead [] cs = 0
lead (a ∷ atoms) [] = 0
lead (a ∷ atoms) (c ∷ cs) = if takes a c then suc (lead atoms cs) else 0
