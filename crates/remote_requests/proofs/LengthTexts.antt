-- A length that is too great.
use Rattle.std.proofs.Common.{◌≡◌, ◌<◌, ◌^◌, ℕ, List, true, Err, arith, lt-ltb, length, refl}
use Rattle.std.proofs.Common.{nat_lt, Some}
use Rattle.std.specs.Str.Parse.{ParsesUnsigned, digits_value}
use Rattle.std.proofs.lemmas.Bool.{and_parts, ltb-true}
use Rattle.std.proofs.lemmas.Str.Parse.{tells_all_ascii_digits, numerals_by_value, parse_digits}
use Rattle.requests.specs.Fields.{is_decimal}
use Rattle.remote_requests.specs.declared.refusal.Refusal.TheVariants.{BadLength}
use Rattle.remote_requests.specs.declared.refusal.Refusal.TheVariants.{BadParameter}
use Rattle.remote_requests.specs.Fields.{length_told}
use Rattle.remote_requests.specs.Parameters.{limit_of}
use Rattle.std.proofs.lemmas.Bool.{false_from_ne_true}

past_limit : (n : ℕ) → (n < 2 ^ 64 → ⊥) → nat_lt 16777216 n ≡ true
past_limit n past = lt-ltb 16777216 n (omega (arith, past))

pub length_past : (E : Type 0) (value : List ℕ) (error : E) → is_decimal value ≡ true
    → ParsesUnsigned 64 10 value (Err error)
    → length_told (Some value) ≡ Err BadLength
length_past E value error e p =
    let parts = and_parts (nat_lt 0 (length value)) _ e in
    let read = parse_digits (numerals_by_value _ tells_all_ascii_digits) 64 value (Err error) p
    parts.1 in
    rw (e, past_limit (digits_value 10 value) (λ lt. read (ltb-true 0 (length value) parts.0, lt)))

-- a limit that is too great
pub limit_past : (E : Type 0) (value : List ℕ) (error : E) → is_decimal value ≡ true
    → ParsesUnsigned 64 10 value (Err error) → Err BadParameter ≡ limit_of value
limit_past E value error e p =
    let parts = and_parts (nat_lt 0 (length value)) _ e in
    let read = parse_digits (numerals_by_value _ tells_all_ascii_digits) 64 value (Err error) p
    parts.1 in
    rw (
      e,
      false_from_ne_true (nat_lt (digits_value 10 value) (2 ^ 64)) (λ lt.
          read (ltb-true 0 (length value) parts.0, ltb-true (digits_value 10 value) (2 ^ 64) lt)),
    ) refl
