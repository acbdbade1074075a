-- Numbers are texts of ASCII.
use Rattle.std.proofs.Common.{◌≡◌, ℕ, Bool, true, false, cond, List, [], ◌∷◌, drop, refl, arith}
use Rattle.std.specs.Prelude.{◌==◌, zero, suc}
use Rattle.std.specs.Str.{IsAscii}
use Rattle.std.specs.Str.Parse.{AllDigits, without_leading_plus}
use Rattle.std.proofs.lemmas.Str.Parse.{digit_from_value}
use Rattle.std.proofs.lemmas.Bool.Decides.{nat_tests}

digits_ascii : (ds : List ℕ) → AllDigits 10 ds → IsAscii ds
digits_ascii [] h i = omega arith
digits_ascii (c ∷ cs) h zero = omega (arith, digit_from_value c h.0)
digits_ascii (c ∷ cs) h (suc i) = digits_ascii cs h.1 i

behind_plus : (c : ℕ) (cs : List ℕ) (plus : Bool) → (c == 43) ≡ plus
    → AllDigits 10 (drop (cond plus 1 0) (c ∷ cs)) → IsAscii (c ∷ cs)
behind_plus c cs false is h i = digits_ascii (c ∷ cs) h i
behind_plus c cs true is h zero = grind (arith, nat_tests)
behind_plus c cs true is h (suc i) = digits_ascii cs h i

-- of digits behind a plus or none
pub number_ascii : (text : List ℕ) → AllDigits 10 (without_leading_plus text) → IsAscii text
number_ascii [] h i = omega arith
number_ascii (c ∷ cs) h i = behind_plus c cs (c == 43) refl h i
