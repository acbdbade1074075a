-- Digits that are written, as digits that are read.
use Rattle.std.proofs.Common.{◌≡◌, ℕ, zero, suc, ◌+◌, ◌-◌, ◌*◌, ◌/◌, ◌%◌, ◌^◌, ◌<◌, ◌≤◌, true}
use Rattle.std.proofs.Common.{List, [], ◌∷◌, ◌++◌, length, refl, sym, ap, ◌∙◌, arith}
use Rattle.std.specs.Prelude.{decimal}
use Rattle.std.specs.Str.Parse.{AllDigits, digits_value_after}
use Rattle.std.specs.Char.{digit_value}
use Rattle.std.proofs.lemmas.Bool.{le-leb}
use Rattle.std.proofs.lemmas.Fmt.{decimal_is_IsNumeral}
use Rattle.std.proofs.lemmas.Nat.{mod_below, div-add-mod'}
use Rattle.std.proofs.lemmas.Str.{digit_value_digit}
use Rattle.std.proofs.lemmas.Str.Parse.{digit_from_value}
use Rattle.std.proofs.Math.Nat.{pow-suc, div-div-eq-div-mul}
use Rattle.decimal_text.specs.Decimals.{is_digit, AreDigits, value_from}
use Rattle.metrics_writer.specs.Numbers.{last_digits}

pub digit_is : (c : ℕ) → 48 ≤ c → c ≤ 57 → is_digit c ≡ true
digit_is c low high =
    let a = le-leb 48 c low in
    let b = le-leb c 57 high in
    rw (a, b) refl

pub digits_are : (ds : List ℕ) → AllDigits 10 ds → AreDigits ds
digits_are [] all = tt
digits_are (c ∷ cs) all =
    let k = digit_from_value c all.0 in
    (digit_is c k.0 k.1, digits_are cs all.1)

pub value_is : (n : ℕ) (ds : List ℕ) → AllDigits 10 ds
    → value_from n ds ≡ digits_value_after 10 n ds
value_is n [] all = refl
value_is n (c ∷ cs) all =
    let k = digit_from_value c all.0 in
    let e = digit_value_digit c k in
    let same : n * 10 + (c - 48) ≡ n * 10 + digit_value c = omega (arith, e) in
    ap (λ (m : ℕ). value_from m cs) same ∙ value_is (n * 10 + digit_value c) cs all.1

pub record Whole (n : ℕ) : Type 0 where
  pub some : 0 < length (decimal n)
  pub digits : AreDigits (decimal n)
  pub value : value_from 0 (decimal n) ≡ n

pub decimal_is : (n : ℕ) → n < 2 ^ 64 → Whole n
decimal_is n lt =
    let k = decimal_is_IsNumeral n lt in
    record {
      some = k.0.0;
      digits = digits_are (decimal n) k.0.1;
      value = value_is 0 (decimal n) k.0.1 ∙ k.1;
    }

pub last_are : (k n : ℕ) → AreDigits (last_digits k n)
unfolding last_digits
last_are zero n = tt
last_are (suc k) n =
    let m = n / 10 ^ k in
    let few = mod_below m 10 (omega arith) in
    (digit_is (48 + m % 10) (omega arith) (omega arith), last_are k n)

pub last_long : (k n : ℕ) → length (last_digits k n) ≡ k
unfolding last_digits
last_long zero n = refl
last_long (suc k) n = ap suc (last_long k n)

-- the digits after n / 10^k write n
pub last_value : (k n : ℕ) → value_from (n / 10 ^ k) (last_digits k n) ≡ n
unfolding last_digits
last_value zero n = omega arith
last_value (suc k) n =
    let m = n / 10 ^ k in
    let tens : n / 10 ^ suc k ≡ m / 10 =
    ap (λ (x : ℕ). n / x) (pow-suc 10 k) ∙ sym (div-div-eq-div-mul n (10 ^ k) 10) in
    let back : m / 10 * 10 + m % 10 ≡ m = div-add-mod' m 10 in
    let one : n / 10 ^ suc k * 10 + (48 + m % 10 - 48) ≡ m =
    ap (λ (x : ℕ). x * 10 + (48 + m % 10 - 48)) tens ∙ omega (arith, back) in
    ap (λ (x : ℕ). value_from x (last_digits k n)) one ∙ last_value k n

pub value_append : (n : ℕ) (xs ys : List ℕ)
    → value_from n (xs ++ ys) ≡ value_from (value_from n xs) ys
value_append n [] ys = refl
value_append n (x ∷ xs) ys = value_append (n * 10 + (x - 48)) xs ys
