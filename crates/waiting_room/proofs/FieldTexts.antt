-- A value of decimal digits is one that `parse` reads, unless it is too great.
use Rattle.std.proofs.Common.{◌≡◌, ◌<◌, ◌^◌, ℕ, List, true, length, Err, IsUtf8, arith, lt-ltb}
use Rattle.std.proofs.Common.{nat_lt}
use Rattle.std.specs.Str.Parse.{ParsesUnsigned, digits_value}
use Rattle.std.proofs.lemmas.Bool.{and_parts, ltb-true}
use Rattle.std.proofs.lemmas.Fmt.{IsAscii-from_digits}
use Rattle.std.proofs.lemmas.Str.{IsUtf8-from_ascii}
use Rattle.std.proofs.lemmas.Str.Parse.{tells_all_ascii_digits, numerals_by_value, parse_digits}
use Rattle.waiting_room.specs.declared.frame.LengthFault.TheVariants.{TooLong}
use Rattle.waiting_room.specs.Fields.{is_decimal, length_in}

pub decimal_is_text : (value : List ℕ) → is_decimal value ≡ true → IsUtf8 value
decimal_is_text value e =
    IsUtf8-from_ascii value (IsAscii-from_digits value
    ((numerals_by_value _ tells_all_ascii_digits).to value (and_parts (nat_lt 0 (length value)) _
    e).1))

past_limit : (most n : ℕ) → most < 2 ^ 32 → (n < 2 ^ 32 → ⊥) → nat_lt most n ≡ true
past_limit most n fits past = lt-ltb most n (omega (arith, fits, past))

pub length_past : (E : Type 0) (most : ℕ) (value : List ℕ) (error : E) → most < 2 ^ 32
    → is_decimal value ≡ true → ParsesUnsigned 32 10 value (Err error)
    → length_in most value ≡ Err TooLong
length_past E most value error fits e p =
    let parts = and_parts (nat_lt 0 (length value)) _ e in
    let read = parse_digits (numerals_by_value _ tells_all_ascii_digits) 32 value (Err error) p
    parts.1 in
    rw (
      e,
      past_limit most (digits_value 10 value) fits
          (λ lt. read (ltb-true 0 (length value) parts.0, lt)),
    )
