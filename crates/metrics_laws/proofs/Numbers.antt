-- Numbers that are written are read again.
use Rattle.std.proofs.Common.{◌≡◌, ℕ, zero, suc, ◌+◌, ◌*◌, ◌/◌, ◌^◌, ◌<◌, ◌≤◌, ℤ, pos, negsuc}
use Rattle.std.proofs.Common.{true, false, eqb, leb, List, [], ◌∷◌, ◌++◌, length, Ok}
use Rattle.std.proofs.Common.{Some}
use Rattle.std.proofs.Common.{refl, sym, ap, subst, ◌∙◌, inl, inr, arith}
use Rattle.std.specs.Prelude.{decimal, unsigned_abs}
use Rattle.std.proofs.lemmas.Bool.{lt-ltb, ne_eqb, leb-true, and_parts}
use Rattle.std.proofs.lemmas.List.{append-nil}
use Rattle.std.proofs.lemmas.Nat.{div_below}
use Rattle.std.proofs.Math.Nat.{one-le-pow}
use Rattle.decimal_text.specs.Decimals.{is_digit, AreDigits, value_from, IsFraction, IsDecimal}
use Rattle.decimal_text.specs.Tenths.{nearest_at}
use Rattle.decimal_text.proofs.NearestParts.{exactly_again}
use Rattle.metrics_writer.specs.Numbers.{last_digits, fraction_of, size_text, number_text}
use Rattle.open_metrics.specs.declared.numbers.Value.TheVariants.{Parts}
use Rattle.open_metrics.specs.declared.tokens.Class.{Class}
use Rattle.open_metrics.specs.declared.tokens.Class.TheVariants.{Mantissa, Word}
use Rattle.open_metrics.specs.Grammar.{AreIn}
use Rattle.open_metrics.specs.Numbers.{is_minus, unsigned_of, exponent_at, scaled_at, is_special}
use Rattle.open_metrics.specs.Numbers.{signed_at, number_at, with_sign}
use Rattle.open_metrics.specs.Tokens.{goes_on, front, behind}
use Rattle.open_metrics.proofs.Again.{front_again, behind_again}
use Rattle.metrics_laws.proofs.Digits.{decimal_is, last_are, last_long, last_value}
use Rattle.metrics_laws.proofs.Digits.{value_append}

fraction_is : (places n : ℕ) → IsFraction (last_digits places n) (fraction_of places n)
unfolding last_digits
fraction_is zero n = inr (refl, refl)
fraction_is (suc k) n = inl refl

pub whole_small : (places n : ℕ) → n < 2 ^ 63 → n / 10 ^ places < 2 ^ 64
whole_small places n lt =
    let one = one-le-pow places 10 (omega arith) in
    div_below n (10 ^ places) (2 ^ 64) (omega arith) (omega (arith, one))

pub size_is : (places n : ℕ) → n < 2 ^ 63 → IsDecimal (size_text places n) places n
unfolding size_text
size_is places n lt =
    let w = n / 10 ^ places in
    let d = decimal_is w (whole_small places n lt) in
    let value : value_from 0 (decimal w ++ last_digits places n) ≡ n =
    value_append 0 (decimal w) (last_digits places n)
    ∙ (ap (λ (m : ℕ). value_from m (last_digits places n)) d.value ∙ last_value places n) in
    record {
      whole = decimal w;
      fraction = last_digits places n;
      digits = record {
        behind = fraction_of places n;
        text_is = refl;
        behind_is = fraction_is places n;
        some = omega (arith, d.some);
        whole_digits = d.digits;
        fraction_digits = last_are places n;
      };
      exact =
          ap (λ (x : ℕ). x * 10 ^ places) value
          ∙ ap (λ (k : ℕ). n * 10 ^ k) (sym (last_long places n));
    }

pub digit_low : (c : ℕ) → is_digit c ≡ true → 48 ≤ c
digit_low c h = leb-true 48 c (and_parts (leb 48 c) (leb c 57) h).0

digit_high : (c : ℕ) → is_digit c ≡ true → c ≤ 57
digit_high c h = leb-true c 57 (and_parts (leb 48 c) (leb c 57) h).1

not_byte : (c k : ℕ) → is_digit c ≡ true → (k ≡ c → ⊥) → eqb c k ≡ false
not_byte c k h ne = ne_eqb c k (λ e. ne (sym e))

mantissa_digit : (c : ℕ) → is_digit c ≡ true → goes_on Mantissa c ≡ true
mantissa_digit c h =
    let high = digit_high c h in
    let a = ne_eqb c 101 (λ e. omega arith) in
    let b = ne_eqb c 69 (λ e. omega arith) in
    rw (a, b) refl

word_digit : (c : ℕ) → is_digit c ≡ true → goes_on Word c ≡ true
word_digit c h =
    let low = digit_low c h in
    let a = ne_eqb c 32 (λ e. omega arith) in
    let b = ne_eqb c 9 (λ e. omega arith) in
    rw (a, b) refl

digits_in : (class : Class) → ((c : ℕ) → is_digit c ≡ true → goes_on class c ≡ true) → (ds : List ℕ)
    → AreDigits ds → AreIn class ds
digits_in class each [] are = tt
digits_in class each (c ∷ cs) are = (each c are.0, digits_in class each cs are.1)

both_in : (class : Class) (xs ys : List ℕ) → AreIn class xs → AreIn class ys
    → AreIn class (xs ++ ys)
both_in class [] ys a b = b
both_in class (x ∷ xs) ys a b = (a.0, both_in class xs ys a.1 b)

fraction_in : (class : Class) → ((c : ℕ) → is_digit c ≡ true → goes_on class c ≡ true)
    → goes_on class 46 ≡ true → (places n : ℕ) → AreIn class (fraction_of places n)
fraction_in class each point zero n = tt
fraction_in class each point (suc k) n =
    (point, digits_in class each (last_digits (suc k) n) (last_are (suc k) n))

size_in : (class : Class) → ((c : ℕ) → is_digit c ≡ true → goes_on class c ≡ true)
    → goes_on class 46 ≡ true → (places n : ℕ) → n < 2 ^ 63 → AreIn class (size_text places n)
unfolding size_text
size_in class each point places n lt =
    let w = n / 10 ^ places in
    let d = decimal_is w (whole_small places n lt) in
    both_in class (decimal w) (fraction_of places n) (digits_in class each (decimal w) d.digits)
    (fraction_in class each point places n)

-- what begins with a digit has no sign, and is no special number, nor after a minus
record Plain (body : List ℕ) : Type 0 where
  unsigned : unsigned_of body ≡ body
  positive : is_minus body ≡ false
  ordinary : is_special body ≡ false
  negative : is_special (45 ∷ body) ≡ false

plain_digit : (c : ℕ) (cs : List ℕ) → is_digit c ≡ true → Plain (c ∷ cs)
plain_digit c cs h =
    let low = digit_low c h in
    let high = digit_high c h in
    let minus = ne_eqb c 45 (λ e. omega arith) in
    let plus = ne_eqb c 43 (λ e. omega arith) in
    let n = ne_eqb c 110 (λ e. omega arith) in
    let i = ne_eqb c 105 (λ e. omega arith) in
    let small = lt-ltb c 65 (omega arith) in
    record {
      unsigned = rw (minus, plus) refl;
      positive = minus;
      ordinary = rw (minus, plus, small, n, i) refl;
      negative = rw (small, i) refl;
    }

plain_front : (ds rest : List ℕ) → 0 < length ds → AreDigits ds → Plain (ds ++ rest)
plain_front [] rest some are = absurd (omega arith)
plain_front (c ∷ cs) rest some are = plain_digit c (cs ++ rest) are.0

plain_size : (places n : ℕ) → n < 2 ^ 63 → Plain (size_text places n)
unfolding size_text
plain_size places n lt =
    let d = decimal_is (n / 10 ^ places) (whole_small places n lt) in
    plain_front (decimal (n / 10 ^ places)) (fraction_of places n) d.some d.digits

-- a mantissa without an exponent
record Mantissas (body : List ℕ) (places n : ℕ) : Type 0 where
  front_is : front Mantissa body ≡ body
  behind_is : behind Mantissa body ≡ []
  number_is : nearest_at body (places + 0) 0 ≡ Ok (record { size = n; exact = true })

mantissa_size : (places n : ℕ) → n < 2 ^ 63 → Mantissas (size_text places n) places n
mantissa_size places n lt =
    let body = size_text places n in
    let are = size_in Mantissa mantissa_digit refl places n lt in
    let nil = append-nil body in
    let same : places + 0 ≡ places = omega arith in
    record {
      front_is = subst (λ (b : List ℕ). front Mantissa b ≡ body) nil (front_again Mantissa body []
          are tt);
      behind_is =
          subst (λ (b : List ℕ). behind Mantissa b ≡ []) nil (behind_again Mantissa body [] are tt);
      number_is =
          ap (λ (k : ℕ). nearest_at body k 0) same
          ∙ exactly_again body places n lt (size_is places n lt);
    }

positive_again : (body : List ℕ) (places n : ℕ) → Plain body → Mantissas body places n
    → number_at body places ≡ Some (Parts (pos n))
unfolding number_at signed_at exponent_at scaled_at
positive_again body places n p m =
    rw (p.ordinary, p.unsigned, p.positive, m.front_is, m.behind_is) (rw m.number_is refl)

negative_again : (body : List ℕ) (places n : ℕ) → Plain body → Mantissas body places n
    → number_at (45 ∷ body) places ≡ Some (Parts (with_sign true n))
unfolding number_at signed_at exponent_at scaled_at
negative_again body places n p m =
    rw (p.negative, m.front_is, m.behind_is) (rw m.number_is refl)

pub number_again : (places : ℕ) (v : ℤ) → unsigned_abs v < 2 ^ 63
    → number_at (number_text places v) places ≡ Some (Parts v)
unfolding number_text
number_again places (pos n) lt =
    positive_again (size_text places n) places n (plain_size places n lt) (mantissa_size places n
    lt)
number_again places (negsuc n) lt =
    negative_again (size_text places (suc n)) places (suc n) (plain_size places (suc n) lt)
    (mantissa_size places (suc n) lt)

pub number_word : (places : ℕ) (v : ℤ) → unsigned_abs v < 2 ^ 63 → AreIn Word (number_text places v)
unfolding number_text
number_word places (pos n) lt = size_in Word word_digit refl places n lt
number_word places (negsuc n) lt = (refl, size_in Word word_digit refl places (suc n) lt)
