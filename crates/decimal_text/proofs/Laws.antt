-- What is read of a decimal text is what it says, and what it says is read.
use Rattle.std.proofs.Common.{◌≡◌, ℕ, zero, suc, ◌+◌, ◌-◌, ◌*◌, ◌^◌, ◌<◌, ◌≤◌, true, false, eqb}
use Rattle.std.proofs.Common.{ltb, leb, ◌&&◌, List, [], ◌∷◌, ◌++◌, length, take, drop, Result, Ok}
use Rattle.std.proofs.Common.{Err, refl, sym, ap, subst, ◌∙◌, inl, inr, arith}
use Rattle.std.proofs.lemmas.Bool.{lt-ltb, eqb-true, eq-eqb, ne_eqb, and_parts}
use Rattle.std.proofs.lemmas.Bool.{cases_Bool, leb-true}
use Rattle.std.proofs.Math.Nat.{pow-suc, one-le-pow, mul_assoc, le_of_mul-le-mul_right}
use Rattle.std.proofs.lemmas.Nat.{mul-le, same_from_place}
use Rattle.std.proofs.lemmas.List.{take-append-drop}
use Rattle.std.proofs.Common.{length-take}
use Rattle.std.specs.Prelude.{IfOk}
use Rattle.wire.specs.Outcome.{Answers}
use Rattle.wire.proofs.Steps.{bind_ok, passed, not_failed, same_value}
use Rattle.decimal_text.specs.declared.error.DecimalError.{DecimalError}
use Rattle.decimal_text.specs.declared.error.DecimalError.TheVariants.{Form, Finer, Large}
use Rattle.decimal_text.specs.Decimals.{is_digit, AreDigits, AreDigitsOf, value_from, IsFraction}
use Rattle.decimal_text.specs.Decimals.{IsDecimal}
use Rattle.decimal_text.specs.Reading.{digits_in_front, digits_at, fraction_at, with_digit}
use Rattle.decimal_text.specs.Reading.{whole_at, parts_at, decimal_at}

-- a power of ten
pub ten : (k : ℕ) → 10 ^ suc k ≡ 10 ^ k * 10
ten k = pow-suc 10 k

pub ten_some : (k : ℕ) → 1 ≤ 10 ^ k
ten_some k = one-le-pow k 10 (omega arith)

with_digit_is : (n d m : ℕ) → with_digit n d ≡ Ok m → m ≡ n * 10 + d
with_digit_is n d m h = sym (same_value (n * 10 + d) m (passed (ltb (n * 10 + d) (2 ^ 63)) Large _ m h).1)

with_digit_ok : (n d : ℕ) → n * 10 + d < 2 ^ 63 → with_digit n d ≡ Ok (n * 10 + d)
with_digit_ok n d lt = rw (lt-ltb (n * 10 + d) (2 ^ 63) lt) refl

-- ---- what is read

pub whole_takes : (n : ℕ) (cs : List ℕ) (m : ℕ) → whole_at n cs ≡ Ok m → m ≡ value_from n cs
unfolding whole_at
whole_takes n [] m h = sym (same_value n m h)
whole_takes n (c ∷ cs) m h =
    let a = bind_ok (with_digit n (c - 48)) _ m h in
    whole_takes a.0 cs m a.2 ∙ ap (λ (k : ℕ). value_from k cs) (with_digit_is n (c - 48) a.0 a.1)

-- digits beyond the places, all 0
record Zeros (n : ℕ) (cs : List ℕ) (m : ℕ) : Type 0 where
  same : m ≡ n
  value : (w : ℕ) → value_from w cs ≡ w * 10 ^ length cs

zeros_take : (n : ℕ) (cs : List ℕ) (m : ℕ) → parts_at n zero cs ≡ Ok m → Zeros n cs m
unfolding parts_at
zeros_take n [] m h = record { same = sym (same_value n m h); value = λ w. omega arith }
zeros_take n (c ∷ cs) m h =
    let p = passed (eqb c 48) Finer _ m h in
    let z = zeros_take n cs m p.1 in
    let e = eqb-true c 48 p.0 in
    record {
      same = z.same;
      value = λ w.
          let d : w * 10 + (c - 48) ≡ w * 10 = omega arith in
          rw d (z.value (w * 10) ∙ (let t = ten (length cs) in rw t (omega arith)));
    }

pub parts_take : (n places : ℕ) (cs : List ℕ) (m : ℕ) → parts_at n places cs ≡ Ok m
    → value_from n cs * 10 ^ places ≡ m * 10 ^ length cs
unfolding parts_at
parts_take n zero [] m h = ap (λ (k : ℕ). k * 10 ^ 0) (same_value n m h)
parts_take n (suc places) [] m h =
    let a = bind_ok (with_digit n 0) _ m h in
    let e = with_digit_is n 0 a.0 a.1 in
    let i = parts_take a.0 places [] m a.2 in
    let t = ten places in
    rw t (omega (arith, subst (λ (k : ℕ). k * 10 ^ places ≡ m * 10 ^ 0) e i))
parts_take n zero (c ∷ cs) m h =
    let z = zeros_take n (c ∷ cs) m h in
    rw (z.value n, z.same) (omega arith)
parts_take n (suc places) (c ∷ cs) m h =
    let a = bind_ok (with_digit n (c - 48)) _ m h in
    let e = with_digit_is n (c - 48) a.0 a.1 in
    let i = subst (λ (k : ℕ). value_from k cs * 10 ^ places ≡ m * 10 ^ length cs) e (parts_take a.0 places cs m a.2) in
    let t = ten places in
    let u = ten (length cs) in
    let v = value_from (n * 10 + (c - 48)) cs in
    rw (t, u) (sym (mul_assoc v (10 ^ places) 10) ∙ ap (λ (x : ℕ). x * 10) i ∙ mul_assoc m (10 ^ length cs) 10)

digits_front : (text : List ℕ) → AreDigits (take (digits_in_front text) text)
unfolding digits_in_front
digits_front [] = tt
digits_front (c ∷ cs) =
    elim (cases_Bool (is_digit c)) [
      | inl e ↦ rw e (e, digits_front cs)
      | inr e ↦ rw e tt
    ]

digits_all : (cs : List ℕ) → digits_in_front cs ≡ length cs → AreDigits cs
unfolding digits_in_front
digits_all [] e = tt
digits_all (c ∷ cs) e =
    elim (cases_Bool (is_digit c)) [
      | inl d ↦ (d, digits_all cs (let h = rw d at e in omega arith))
      | inr d ↦ absurd (let h = rw d at e in omega arith)
    ]

pub record Fraction (rest fraction : List ℕ) : Type 0 where
  pub text : IsFraction fraction rest
  pub digits : AreDigits fraction

fraction_takes : (rest f : List ℕ) → fraction_at rest ≡ Ok f → Fraction rest f
unfolding fraction_at
fraction_takes [] f h =
    subst (Fraction []) (same_value [] f h) (record { text = inr (refl, refl); digits = tt })
fraction_takes (c ∷ cs) f h =
    let p = passed (eqb c 46 && eqb (digits_in_front cs) (length cs)) Form _ f h in
    let a = and_parts (eqb c 46) _ p.0 in
    let e = eqb-true c 46 a.0 in
    subst (Fraction (c ∷ cs)) (same_value cs f p.1)
    (record {
      text = inl (ap (λ (x : ℕ). x ∷ cs) e);
      digits = digits_all cs (eqb-true (digits_in_front cs) (length cs) a.1);
    })

-- a test that fails leaves one of two numbers above 0
some_of : (n m : ℕ) → (eqb n 0 && eqb m 0) ≡ false → 0 < n + m
some_of zero zero h = absurd cc
some_of zero (suc m) h = omega arith
some_of (suc n) m h = omega arith

none_of : (n m : ℕ) → 0 < n + m → (eqb n 0 && eqb m 0) ≡ false
none_of zero zero h = absurd (omega (arith, h))
none_of zero (suc m) h = rw (ne_eqb (suc m) 0 (λ e. omega (arith, e))) refl
none_of (suc n) m h = rw (ne_eqb (suc n) 0 (λ e. omega (arith, e))) refl

pub value_append : (n : ℕ) (xs ys : List ℕ) → value_from n (xs ++ ys) ≡ value_from (value_from n xs) ys
value_append n [] ys = refl
value_append n (x ∷ xs) ys = value_append (n * 10 + (x - 48)) xs ys

digits_within : (text : List ℕ) → digits_in_front text ≤ length text
unfolding digits_in_front
digits_within [] = omega arith
digits_within (c ∷ cs) =
    elim (cases_Bool (is_digit c)) [
      | inl e ↦ rw e (let h = digits_within cs in omega arith)
      | inr e ↦ rw e (omega arith)
    ]

pub digits_take : (text : List ℕ) (d : List ℕ × List ℕ) → digits_at text ≡ Ok d
    → AreDigitsOf text d.0 d.1
unfolding digits_at
digits_take text d h =
    let whole = take (digits_in_front text) text in
    let rest = drop (digits_in_front text) text in
    let f = bind_ok (fraction_at rest) _ d h in
    let t = not_failed (eqb (digits_in_front text) 0 && eqb (length f.0) 0) Form _ d f.2 in
    let front = fraction_takes rest f.0 f.1 in
    let within = digits_within text in
    let long : length whole ≡ digits_in_front text = simp length-take (grind arith) in
    let some = some_of (digits_in_front text) (length f.0) t.0 in
    let made : List ℕ × List ℕ = (whole, f.0) in
    subst (λ (x : List ℕ × List ℕ). AreDigitsOf text x.0 x.1) (same_value made d t.1)
    (record {
      behind = rest;
      text_is = sym (take-append-drop (digits_in_front text) text);
      behind_is = front.text;
      some = omega (arith, some, long);
      whole_digits = digits_front text;
      fraction_digits = front.digits;
    })

pub decimal_takes : (text : List ℕ) (places m : ℕ) → decimal_at text places ≡ Ok m
    → IsDecimal text places m
unfolding decimal_at
decimal_takes text places m h =
    let d = bind_ok (digits_at text) _ m h in
    let n = bind_ok (whole_at 0 d.0.0) _ m d.2 in
    let value = whole_takes 0 d.0.0 n.0 n.1 in
    let parts = parts_take n.0 places d.0.1 m n.2 in
    record {
      whole = d.0.0;
      fraction = d.0.1;
      digits = digits_take text d.0 d.1;
      exact =
          ap (λ (x : ℕ). x * 10 ^ places) (value_append 0 d.0.0 d.0.1
          ∙ ap (λ (k : ℕ). value_from k d.0.1) (sym value)) ∙ parts;
    }

-- ---- what is said

pub digit_small : (c : ℕ) → is_digit c ≡ true → c - 48 < 10
digit_small c h =
    let p = and_parts (leb 48 c) (leb c 57) h in
    let a = leb-true c 57 p.1 in
    omega arith

pub digit_large : (c : ℕ) → is_digit c ≡ true → 48 ≤ c
digit_large c h = leb-true 48 c (and_parts (leb 48 c) (leb c 57) h).0

-- digits behind a number
pub record Behind (n : ℕ) (cs : List ℕ) : Type 0 where
  pub is : value_from n cs ≡ n * 10 ^ length cs + value_from 0 cs
  pub small : value_from 0 cs < 10 ^ length cs

pub behind : (n : ℕ) (cs : List ℕ) → AreDigits cs → Behind n cs
behind n [] digits = record { is = omega arith; small = omega arith }
behind n (c ∷ cs) digits =
    let d = c - 48 in
    let k = length cs in
    let a = behind (n * 10 + d) cs digits.1 in
    let z = behind (0 * 10 + d) cs digits.1 in
    let e : 0 * 10 + d ≡ d = omega arith in
    let lt = digit_small c digits.0 in
    let t = ten k in
    let zero_is : value_from (0 * 10 + d) cs ≡ d * 10 ^ k + value_from 0 cs =
    z.is ∙ ap (λ (x : ℕ). x * 10 ^ k + value_from 0 cs) e in
    let nine = mul-le d (10 ^ k) 9 (10 ^ k) (omega arith) (omega arith) in
    let small = a.small in
    let whole = a.is in
    record {
      is = rw t (omega (arith, whole, zero_is));
      small = rw t (omega (arith, zero_is, nine, small));
    }

whole_again : (n : ℕ) (cs : List ℕ) → AreDigits cs → value_from n cs < 2 ^ 63
    → whole_at n cs ≡ Ok (value_from n cs)
unfolding whole_at
whole_again n [] digits lt = refl
whole_again n (c ∷ cs) digits lt =
    let m = n * 10 + (c - 48) in
    let b = behind m cs digits.1 in
    let is = b.is in
    let one = ten_some (length cs) in
    let grown = mul-le m 1 m (10 ^ length cs) (omega arith) one in
    let e = with_digit_ok n (c - 48) (omega (arith, is, grown)) in
    rw e (whole_again m cs digits.1 lt)

-- x * 10 ^ k * 10 is y * 10 * 10 ^ k
cancel_ten : (x y : ℕ) → x * 10 ≡ y * 10 → x ≡ y
cancel_ten x y e = omega arith

zeros_again : (n : ℕ) (cs : List ℕ) → AreDigits cs → value_from 0 cs ≡ 0 → parts_at n zero cs ≡ Ok n
unfolding parts_at
zeros_again n [] digits e = refl
zeros_again n (c ∷ cs) digits e =
    let d = c - 48 in
    let z = behind (0 * 10 + d) cs digits.1 in
    let is = z.is in
    let one = ten_some (length cs) in
    let grown = mul-le (0 * 10 + d) 1 (0 * 10 + d) (10 ^ length cs) (omega arith) one in
    let none : d ≡ 0 = omega (arith, is, grown) in
    let rest : value_from 0 cs ≡ 0 = omega (arith, is, grown) in
    let low = digit_large c digits.0 in
    let same : c ≡ 48 = omega arith in
    rw (eq-eqb c 48 same) (zeros_again n cs digits.1 rest)

same_ok : (x y : ℕ) → x ≡ y → ◌≡◌ {A = Result ℕ DecimalError} (Ok x) (Ok y)
same_ok x y e = ap (λ (k : ℕ). let r : Result ℕ DecimalError = Ok k in r) e

-- where digits are left over, they are 0
left_over : (n places : ℕ) (c : ℕ) (cs : List ℕ) (m : ℕ) → AreDigits (c ∷ cs)
    → value_from (n * 10 + (c - 48)) cs ≡ m * 10 ^ suc (length cs)
    → (c ≡ 48) × (n ≡ m) × (value_from 0 cs ≡ 0)
left_over n places c cs m digits e =
    let d = c - 48 in
    let k = length cs in
    let b = behind (n * 10 + d) cs digits.1 in
    let r = value_from 0 cs in
    let t = ten k in
    let zero_small : 0 < 10 ^ k = ten_some k in
    let split : (n * 10 + d) * 10 ^ k + r ≡ (m * 10) * 10 ^ k + 0 =
    sym b.is ∙ e ∙ rw t (omega arith) in
    let p = same_from_place (n * 10 + d) r (m * 10) 0 (10 ^ k) b.small zero_small split in
    let lt = digit_small c digits.0 in
    let low = digit_large c digits.0 in
    let q = p.0 in
    let same : n ≡ m = omega arith in
    let none : c ≡ 48 = omega arith in
    (none, same, p.1)

pub parts_again : (n places : ℕ) (cs : List ℕ) (m : ℕ) → AreDigits cs → m < 2 ^ 63
    → value_from n cs * 10 ^ places ≡ m * 10 ^ length cs → parts_at n places cs ≡ Ok m
unfolding parts_at
parts_again n zero [] m digits lt e = same_ok n m (omega arith)
parts_again n (suc places) [] m digits lt e =
    let t = ten places in
    let f = rw t at e in
    let one = ten_some places in
    let grown = mul-le (n * 10) 1 (n * 10) (10 ^ places) (omega arith) one in
    let push = with_digit_ok n 0 (omega (arith, f, grown)) in
    rw push (parts_again (n * 10 + 0) places [] m tt lt (omega (arith, f)))
parts_again n zero (c ∷ cs) m digits lt e =
    let f : value_from (n * 10 + (c - 48)) cs ≡ m * 10 ^ suc (length cs) = omega arith in
    let p = left_over n zero c cs m digits f in
    rw (eq-eqb c 48 p.0) (zeros_again n cs digits.1 p.2 ∙ same_ok n m p.1)
parts_again n (suc places) (c ∷ cs) m digits lt e =
    let v = n * 10 + (c - 48) in
    let k = length cs in
    let t = ten places in
    let u = ten k in
    let x = value_from v cs * 10 ^ places in
    let y = m * 10 ^ k in
    let f : x * 10 ≡ y * 10 =
    mul_assoc (value_from v cs) (10 ^ places) 10
    ∙ ap (λ (p : ℕ). value_from v cs * p) (sym t) ∙ e
    ∙ ap (λ (p : ℕ). m * p) u ∙ sym (mul_assoc m (10 ^ k) 10) in
    let g : x ≡ y = cancel_ten x y f in
    let b = behind v cs digits.1 in
    let is = b.is in
    let front : v * 10 ^ k ≤ value_from v cs = omega arith in
    let one = ten_some places in
    let grown = mul-le (value_from v cs) 1 (value_from v cs) (10 ^ places) (omega arith) one in
    let within : v * 10 ^ k ≤ m * 10 ^ k = omega (arith, g, grown) in
    let few : v ≤ m = le_of_mul-le-mul_right within (ten_some k) in
    rw (with_digit_ok n (c - 48) (omega arith)) (parts_again v places cs m digits.1 lt g)

digits_of_digits : (ws rest : List ℕ) → AreDigits ws → digits_in_front rest ≡ 0 → digits_in_front (ws ++ rest) ≡ length ws
unfolding digits_in_front
digits_of_digits [] rest digits e = e
digits_of_digits (w ∷ ws) rest digits e = rw digits.0 (ap suc (digits_of_digits ws rest digits.1 e))

digits_of_fraction : (f rest : List ℕ) → IsFraction f rest → digits_in_front rest ≡ 0
unfolding digits_in_front
digits_of_fraction f rest (inl e) = ap digits_in_front e
digits_of_fraction f rest (inr e) = ap digits_in_front e.1

digits_of_all : (cs : List ℕ) → AreDigits cs → digits_in_front cs ≡ length cs
unfolding digits_in_front
digits_of_all [] digits = refl
digits_of_all (c ∷ cs) digits = rw digits.0 (ap suc (digits_of_all cs digits.1))

point_again : (f : List ℕ) → AreDigits f → fraction_at (46 ∷ f) ≡ Ok f
unfolding fraction_at
point_again f digits =
    let all : eqb (digits_in_front f) (length f) ≡ true =
    eq-eqb (digits_in_front f) (length f) (digits_of_all f digits) in
    rw all refl

none_again : (f : List ℕ) → f ≡ [] → fraction_at [] ≡ Ok f
unfolding fraction_at
none_again f e = ap Ok (sym e)

fraction_again : (f rest : List ℕ) → IsFraction f rest → AreDigits f → fraction_at rest ≡ Ok f
fraction_again f rest (inl e) digits = ap fraction_at e ∙ point_again f digits
fraction_again f rest (inr e) digits = ap fraction_at e.1 ∙ none_again f e.0

take_front : (ws rest : List ℕ) → take (length ws) (ws ++ rest) ≡ ws
take_front [] rest = grind arith
take_front (w ∷ ws) rest = ap (λ (t : List ℕ). w ∷ t) (take_front ws rest)

drop_front : (ws rest : List ℕ) → drop (length ws) (ws ++ rest) ≡ rest
drop_front [] rest = grind arith
drop_front (w ∷ ws) rest = drop_front ws rest

pub digits_again : (text whole fraction : List ℕ) → AreDigitsOf text whole fraction
    → digits_at text ≡ Ok (whole, fraction)
unfolding digits_at
digits_again text whole fraction x =
    let rest = x.behind in
    let n =
    digits_of_digits whole rest x.whole_digits (digits_of_fraction fraction rest x.behind_is) in
    let count : digits_in_front text ≡ length whole = ap digits_in_front x.text_is ∙ n in
    let no = none_of (length whole) (length fraction) x.some in
    let front : take (length whole) text ≡ whole = ap (take (length whole)) x.text_is ∙ take_front whole rest in
    let back : drop (length whole) text ≡ rest = ap (drop (length whole)) x.text_is ∙ drop_front whole rest in
    rw (count, back, fraction_again fraction rest x.behind_is x.fraction_digits, no, front) refl

pub decimal_again : (text : List ℕ) (places m : ℕ) → m < 2 ^ 63 → IsDecimal text places m
    → decimal_at text places ≡ Ok m
unfolding decimal_at
decimal_again text places m lt x =
    let v = value_from 0 x.whole in
    let parts : value_from v x.fraction * 10 ^ places ≡ m * 10 ^ length x.fraction =
    ap (λ (k : ℕ). k * 10 ^ places) (sym (value_append 0 x.whole x.fraction)) ∙ x.exact in
    let k = length x.fraction in
    let b = behind v x.fraction x.digits.fraction_digits in
    let is = b.is in
    let one = ten_some places in
    let grown = mul-le (value_from v x.fraction) 1 (value_from v x.fraction) (10 ^ places) (omega arith) one in
    let within : v * 10 ^ k ≤ m * 10 ^ k = omega (arith, parts, grown) in
    let few : v ≤ m = le_of_mul-le-mul_right within (ten_some k) in
    rw (
      digits_again text x.whole x.fraction x.digits,
      whole_again 0 x.whole x.digits.whole_digits (omega arith),
    )
    (parts_again v places x.fraction m x.digits.fraction_digits lt parts)

-- what a call that answers so has found
pub found_in : (text : List ℕ) (places : ℕ) (r : Result ℕ DecimalError)
    → Answers (λ (n : ℕ). n) r (decimal_at text places) → IfOk r (IsDecimal text places)
found_in text places (Ok n) h = decimal_takes text places n h
found_in text places (Err e) h = tt

pub only_in : (text : List ℕ) (places : ℕ) (r : Result ℕ DecimalError) (n : ℕ)
    → Answers (λ (n : ℕ). n) r (decimal_at text places) → n < 2 ^ 63 → IsDecimal text places n
    → r ≡ Ok n
only_in text places (Ok m) n h lt x = sym h ∙ decimal_again text places n lt x
only_in text places (Err e) n h lt x = sym h ∙ decimal_again text places n lt x
