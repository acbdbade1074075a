-- A text of few digits is the number that they write.
use Rattle.std.proofs.Common.{◌≡◌, ℕ, ◌<◌, ◌++◌, List, [], pos, Some, false, length, refl, sym, ap, ◌∙◌, arith}
use Rattle.std.proofs.lemmas.Bool.{lt-ltb}
use Rattle.std.proofs.lemmas.Float.Parse.{scan_numeral-text_of}
use Rattle.std.proofs.lemmas.List.{append-nil}
use Rattle.std.specs.Float.Numeral.{Parts, text_of, IsWellFormed}
use Rattle.std.specs.Prelude.{option_and_then}
use Rattle.std.specs.Str.Parse.{digits_value, AllDigits}
use Rattle.fast_float.specs.Text.{scan}
use Rattle.serde_json.specs.Find.{as_i64}
use Rattle.serde_json.specs.Read.{number_from}

abbrev parts : List ℕ → Parts
parts s = record {
  whole = s;
  point = false;
  fraction = [];
  exponent_negative = false;
  exponent = [];
  len = length s;
}

text : (s : List ℕ) → text_of (parts s) ≡ s
text s = append-nil s

formed : (s : List ℕ) → AllDigits 10 s → IsWellFormed (parts s)
formed s digits = record {
  whole_digits = digits;
  fraction_digits = tt;
  exponent_digits = tt;
  no_point = λ e. refl;
  no_exponent = λ e. refl;
  len_is = ap length (sym (text s));
}

scanned : (s : List ℕ) → AllDigits 10 s → scan s ≡ parts s
scanned s digits = ap scan (sym (text s)) ∙ scan_numeral-text_of (parts s) (formed s digits)

pub few_written : (s : List ℕ) (n : ℕ) → AllDigits 10 s → 0 < length s → n ≡ digits_value 10 s
    → n < 1000000000000000000 → option_and_then as_i64 (number_from false (scan s)) ≡ Some (pos n)
few_written s n digits some is few =
    let whole : digits_value 10 (s ++ []) ≡ n = ap (digits_value 10) (append-nil s) ∙ sym is in
    rw (
      scanned s digits,
      whole,
      lt-ltb 0 (length s) some,
      lt-ltb n 18446744073709551616 (omega (arith, few)),
      lt-ltb n 9223372036854775808 (omega (arith, few)),
    ) refl
