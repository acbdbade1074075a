-- Times that are compared by their bits.
use Rattle.std.proofs.Common.{◌≡◌, ℕ, Bool, true, false, eqb, List, Some, pos, refl, sym, ap, ◌∙◌}
use Rattle.std.specs.Prelude.{ℤ, slice_get}
use Rattle.std.specs.Int.{w64, cast_signed, cast_unsigned}
use Rattle.std.specs.Int.RustNames.{FitsSigned}
use Rattle.std.specs.Ordering.{int_cmp, int_eq, is_eq}
use Rattle.std.specs.Cmp.{Equal-is}
use Rattle.std.specs.FinMap.{int_cmp-IsAntisymmetric}
use Rattle.std.proofs.lemmas.Bool.{eqb-true, eqb-false, false_from_ne_true}
use Rattle.std.proofs.lemmas.Cmp.{int_cmp_total, tied_itself}
use Rattle.std.proofs.lemmas.Int.{to_z-of_z}
use Rattle.std.proofs.lemmas.Option.{get_or_from_slice_get}
use Rattle.chunk_reader.specs.Grammar.{time_at}

pub int_eq-true : (a b : ℤ) → int_eq a b ≡ true → a ≡ b
int_eq-true a b h = int_cmp-IsAntisymmetric a b ((Equal-is (int_cmp a b)).0 h)

pub int_eq_same : (a b : ℤ) → a ≡ b → int_eq a b ≡ true
int_eq_same a b e = ap is_eq (ap (int_cmp a) (sym e) ∙ tied_itself int_cmp_total a)

bits_eq : (a b : ℤ) (x : Bool) → FitsSigned w64 a → FitsSigned w64 b
    → eqb (cast_unsigned w64 a) (cast_unsigned w64 b) ≡ x → x ≡ int_eq a b
bits_eq a b true fa fb h =
    let bits : cast_unsigned w64 a ≡ cast_unsigned w64 b = eqb-true _ _ h in
    let same : a ≡ b =
    sym (to_z-of_z w64 a fa) ∙ ap (λ (n : ℕ). cast_signed w64 n) bits ∙ to_z-of_z w64 b fb in
    sym (int_eq_same a b same)
bits_eq a b false fa fb h =
    sym (false_from_ne_true (int_eq a b) (λ e. eqb-false (cast_unsigned w64 a) (cast_unsigned w64 b)
    h (ap (λ (z : ℤ). cast_unsigned w64 z) (int_eq-true a b e))))

pub same_time : (samples : List (ℤ × ℤ)) (i : ℕ) (s : ℤ × ℤ) (time bound : ℤ)
    → slice_get samples i ≡ Some s → time ≡ s.0 → FitsSigned w64 time → FitsSigned w64 bound
    → eqb (cast_unsigned w64 time) (cast_unsigned w64 bound) ≡ int_eq (time_at samples i) bound
same_time samples i s time bound h same ft fb =
    let d : ℤ × ℤ = (pos 0, pos 0) in
    let there : time ≡ time_at samples i =
    same ∙ sym (ap (λ (x : ℤ × ℤ). x.0) (get_or_from_slice_get samples i s d h)) in
    bits_eq time bound _ ft fb refl ∙ ap (λ (z : ℤ). int_eq z bound) there
