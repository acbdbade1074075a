-- What the getters of `clap` say of the times that the words give.
use Rattle.std.proofs.Common.{◌≡◌, ℤ, Option, Some, None, refl, sym, subst, ◌∙◌, inl, inr}
use Rattle.std.specs.Prelude.{FitsSigned}
use Rattle.std.specs.Int.{w64}
use Rattle.std.specs.Str.Parse.{IsNumeral, without_leading_sign, signed_digits_value}
use Rattle.clap.specs.Words.{Text, one_of, one_text, rows_of}
use Rattle.clap.specs.declared.parser.matches.Found.{Found}
use Rattle.clap.proofs.WalkLemmas.{one_text-rows}
use Rattle.audit_command.specs.Asking.{IsTimeIn}

-- a text that was read is the number
pub time_given : (f : Found) (name : Text) (other time shown : ℤ) → (FitsSigned w64 time → shown ≡ time) → (one_text f name ≡ None → Some time ≡ None)
    → ((t : Text) → one_text f name ≡ Some t → (IsNumeral 10 (without_leading_sign t) × FitsSigned w64 (signed_digits_value 10 t)) × (time ≡ signed_digits_value 10 t))
    → IsTimeIn (one_of name (rows_of f)) other shown
time_given f name other time shown same none value = subst (λ (o : Option Text). IsTimeIn o other shown) (one_text-rows f name) (go (one_text f name) refl)
  where
    go : (o : Option Text) → one_text f name ≡ o → IsTimeIn o other shown
    go None e = let no : Some time ≡ None = none e in cc
    go (Some t) e =
        let p = value t e in
        let fits : FitsSigned w64 time = subst (FitsSigned w64) (sym p.1) p.0.1 in
        inl (record { numeral = p.0.0; fits = p.0.1 }, same fits ∙ p.1)

-- the other time stands where no text is, or one that is no number
pub time_missing : (f : Found) (name : Text) (other : ℤ)
    → ((t : Text) → one_text f name ≡ Some t → IsNumeral 10 (without_leading_sign t) × FitsSigned w64 (signed_digits_value 10 t) → ⊥)
    → IsTimeIn (one_of name (rows_of f)) other other
time_missing f name other value = subst (λ (o : Option Text). IsTimeIn o other other) (one_text-rows f name) (go (one_text f name) refl)
  where
    go : (o : Option Text) → one_text f name ≡ o → IsTimeIn o other other
    go None e = refl
    go (Some t) e = inr (λ n. value t e (n.numeral, n.fits), refl)
