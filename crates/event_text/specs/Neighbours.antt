-- Tests of elements that stand next to each other.
use Rattle.std.specs.Prelude.{Bool, true, ◌&&◌, List, [], ◌∷◌}

-- whether a test holds of each element and the next
abbrev pub neighbours : {A : Type 0} → (A → A → Bool) → List A → Bool
neighbours test [] = true
neighbours test (x ∷ []) = true
neighbours test (x ∷ y ∷ ys) = test x y && neighbours test (y ∷ ys)
