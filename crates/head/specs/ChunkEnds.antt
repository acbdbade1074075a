-- Which chunks end before a time.
use Rattle.std.specs.Prelude.{ℤ, Bool, true, List, [], ◌∷◌, int_lt}

-- whether the last sample, if there is one, lies before a time
abbrev pub ends_before : ℤ → List (ℤ × ℤ) → Bool
ends_before t [] = true
ends_before t (s ∷ []) = int_lt s.0 t
ends_before t (s ∷ x ∷ xs) = ends_before t (x ∷ xs)
