-- A text that writes a time is one that `parse` reads.
use Rattle.std.proofs.Common.{◌≡◌, ℕ, ℤ, Bool, true, false, List, [], ◌∷◌, None, Some, arith, refl}
use Rattle.std.proofs.Common.{sym, FitsSigned, w64, ◌≢◌, length, subst, true≢false, lit<}
use Rattle.std.specs.Prelude.{◌==◌, ◌&&◌, not, if◌then◌else◌}
use Rattle.std.specs.List.{list_all}
use Rattle.std.specs.Char.{is_ascii_digit}
use Rattle.std.specs.Str.Parse.{IsNumeral, AllDigits, without_leading_sign, signed_digits_value}
use Rattle.std.proofs.lemmas.Int.{ints}
use Rattle.std.proofs.lemmas.Str.Parse.{tells_all_ascii_digits, numerals_by_value}
use Rattle.std.proofs.lemmas.Str.Parse.{without_leading_plus_none}
use Rattle.std.proofs.lemmas.Bool.{and_parts, eqb-true}
use Rattle.labels.specs.Contents.{is_time}
use Rattle.requests.specs.Times.{is_counted, is_integer, time_of}

time_fits : (z : ℤ) → is_time z ≡ true → FitsSigned w64 z
time_fits z e = grind (arith, ints)

digits : (ds : List ℕ) → list_all is_ascii_digit ds ≡ true → AllDigits 10 ds
digits ds e = (numerals_by_value _ tells_all_ascii_digits).to ds e

counted_is_numeral : (bytes : List ℕ) → is_counted bytes ≡ true → IsNumeral 10 bytes
counted_is_numeral [] e = cc
counted_is_numeral (byte ∷ bytes) e =
    let parts = and_parts (not (byte == 48) && is_ascii_digit byte) (list_all is_ascii_digit bytes)
    e in
    let first = and_parts (not (byte == 48)) (is_ascii_digit byte) parts.0 in
    let all : list_all is_ascii_digit (byte ∷ bytes) ≡ true = rw (first.1, parts.1) in
    (omega arith, digits (byte ∷ bytes) all)

counted_is_unsigned : (byte : ℕ) (bytes : List ℕ) → is_counted (byte ∷ bytes) ≡ true → byte ≢ 43
counted_is_unsigned byte bytes e same =
    let parts = and_parts (not (byte == 48) && is_ascii_digit byte) (list_all is_ascii_digit bytes)
    e in
    let first = and_parts (not (byte == 48)) (is_ascii_digit byte) parts.0 in
    let not_plus : is_ascii_digit 43 ≡ true = subst (λ b. is_ascii_digit b ≡ true) same first.1 in
    true≢false (sym not_plus)

alone : (bytes : List ℕ) → (length bytes == 0) ≡ true → bytes ≡ []
alone [] e = refl
alone (byte ∷ bytes) e = absurd (omega (arith, eqb-true (length (byte ∷ bytes)) 0 e))

numeral_at : (byte : ℕ) (bytes : List ℕ) (minus zero : Bool) → (byte == 45) ≡ minus → (byte == 48)
    ≡ zero
    → (if minus then is_counted bytes else (if zero then length bytes == 0 else is_counted
    (byte ∷ bytes))) ≡ true
    → IsNumeral 10 (without_leading_sign (byte ∷ bytes))
numeral_at byte bytes true zero m z e = rw m (counted_is_numeral bytes e)
numeral_at byte bytes false true m z e =
    let is : byte ∷ bytes ≡ 48 ∷ [] = rw (eqb-true byte 48 z, alone bytes e) in
    subst (λ text. IsNumeral 10 (without_leading_sign text)) (sym is) (lit< tt, (lit< tt, tt))
numeral_at byte bytes false false m z e =
    rw (m, without_leading_plus_none (byte ∷ bytes) (counted_is_unsigned byte bytes e))
    (counted_is_numeral (byte ∷ bytes) e)

integer_is_numeral : (text : List ℕ) → is_integer text ≡ true → IsNumeral 10
    (without_leading_sign text)
integer_is_numeral [] e = cc
integer_is_numeral (byte ∷ bytes) e = numeral_at byte bytes (byte == 45) (byte == 48) refl refl e

time_unless_at : (z : ℤ) (b : Bool) → is_time z ≡ b → (FitsSigned w64 z → ⊥) → None
    ≡ (if b then Some z else None)
time_unless_at z true e none = absurd (none (time_fits z e))
time_unless_at z false e none = refl

pub time_unless : (text : List ℕ) → is_integer text ≡ true
    → (IsNumeral 10 (without_leading_sign text) × FitsSigned w64 (signed_digits_value 10 text) → ⊥)
    → None ≡ time_of text
time_unless text e none = rw e (time_unless_at _ _ refl
    (λ fits. none (integer_is_numeral text e, fits)))
