-- Digits that are cut off, and the nearest whole number.
use Rattle.std.proofs.Common.{◌≡◌, ℕ, zero, suc, ◌+◌, ◌-◌, ◌*◌, ◌/◌, ◌%◌, ◌^◌, ◌<◌, ◌≤◌, Bool, true}
use Rattle.std.proofs.Common.{false, not, ◌||◌, eqb, ltb, List, [], ◌∷◌, ◌++◌, length, Result}
use Rattle.std.proofs.Common.{Ok, Err, refl, sym, ap, subst, ◌∙◌, inl, inr, arith, length-append}
use Rattle.std.specs.Prelude.{IfOk}
use Rattle.std.proofs.lemmas.Bool.{lt-ltb, le-ltb, eqb-true, eqb-false, eq-eqb, ne_eqb, and_parts}
use Rattle.std.proofs.lemmas.Bool.{and_cases, cases_Bool, cases_eq, cases_lt, ltb-true}
use Rattle.std.proofs.Math.Nat.{pow-le-pow_right, mul_assoc, add-mul}
use Rattle.std.proofs.lemmas.Nat.{mul-le, mod_below, div-add-mod', pow-add}
use Rattle.wire.specs.Outcome.{Answers}
use Rattle.wire.proofs.Steps.{bind_ok, passed, same_value}
use Rattle.doubles.specs.Rounded.{IsNearestWhole}
use Rattle.doubles.proofs.Wholes.{nearest_only}
use Rattle.decimal_text.specs.declared.error.DecimalError.{DecimalError}
use Rattle.decimal_text.specs.declared.error.DecimalError.TheVariants.{Large}
use Rattle.decimal_text.specs.declared.rounding.Cut.{Cut}
use Rattle.decimal_text.specs.declared.rounding.Nearest.{Nearest}
use Rattle.decimal_text.specs.Decimals.{is_digit, AreDigits, value_from, IsDecimal}
use Rattle.decimal_text.specs.Reading.{digits_at}
use Rattle.decimal_text.specs.Rounded.{IsRounded, IsNearest}
use Rattle.decimal_text.specs.Tenths.{limit, capped, grown, with_next, cut_after, cut_of, padded}
use Rattle.decimal_text.specs.Tenths.{as_parts, unread}
use Rattle.decimal_text.specs.Tenths.{is_up, nearest_of, is_exact, rounded_at, of_cut, keep_of}
use Rattle.decimal_text.specs.Tenths.{nearest_at}
use Rattle.decimal_text.proofs.Laws.{ten, ten_some, digit_small, digit_large, value_append, behind}
use Rattle.decimal_text.proofs.Laws.{digits_take, digits_again}
use Rattle.decimal_text.proofs.Loops.{zeros_end}

-- ---- up to the limit

capped_small : (n : ℕ) → n < limit → capped n ≡ n
capped_small n lt = rw (lt-ltb n limit lt) refl

capped_large : (n : ℕ) → limit ≤ n → capped n ≡ limit
capped_large n le = rw (le-ltb n limit le) refl

capped_grown : (n e : ℕ) → grown (capped n) e ≡ capped (n * 10 + e)
unfolding grown
capped_grown n e =
    elim (cases_lt n limit) [
      | inl lt ↦ ap (λ (m : ℕ). grown m e) (capped_small n lt)
      | inr le ↦
          ap (λ (m : ℕ). grown m e) (capped_large n le)
          ∙ (capped_large (limit * 10 + e) (omega arith)
          ∙ sym (capped_large (n * 10 + e) (omega arith)))
    ]

pad_capped : (zeros n : ℕ) → padded zeros (capped n) ≡ capped (n * 10 ^ zeros)
unfolding padded
pad_capped zero n =
    let same : n ≡ n * 10 ^ 0 = omega arith in
    ap (λ (m : ℕ). capped m) same
pad_capped (suc k) n =
    let t = ten k in
    let same : (n * 10 + 0) * 10 ^ k ≡ n * 10 ^ suc k = rw t (omega arith) in
    ap (padded k) (capped_grown n 0)
    ∙ (pad_capped k (n * 10 + 0) ∙ ap (λ (m : ℕ). capped m) same)

-- ---- digits that are cut off

-- so many digits write a value; of them as many as this are to be kept
record Stands (value count keep : ℕ) (cut : Cut) : Type 0 where
  kept : ℕ
  rest : ℕ
  left : cut.left ≡ keep - count
  parts : value ≡ kept * 10 ^ (count - keep) + rest
  small : rest < 10 ^ (count - keep)
  size : cut.tenths ≡ capped kept
  more : cut.more ≡ not (eqb rest 0)

-- whether a rest with one digit more is 0
more_step : (rest c : ℕ) → 48 ≤ c
    → (not (eqb rest 0) || not (eqb c 48)) ≡ not (eqb (rest * 10 + (c - 48)) 0)
more_step rest c low =
    elim (cases_eq rest 0) [
      | inl none ↦ elim (cases_eq c 48) [
        | inl e ↦ rw (
          eq-eqb rest 0 none,
          eq-eqb c 48 e,
          eq-eqb (rest * 10 + (c - 48)) 0 (omega arith),
        ) refl
        | inr ne ↦ rw (
          eq-eqb rest 0 none,
          ne_eqb c 48 ne,
          ne_eqb (rest * 10 + (c - 48)) 0 (λ h. omega arith),
        ) refl
      ]
      | inr some ↦ rw (
        ne_eqb rest 0 some,
        ne_eqb (rest * 10 + (c - 48)) 0 (λ h. omega arith),
      ) refl
    ]

kept_one : (value count keep c : ℕ) (cut : Cut) → count < keep → Stands value count keep cut
    → Stands (value * 10 + (c - 48)) (count + 1) keep (with_next cut c)
kept_one value count keep c cut lt s =
    let e = c - 48 in
    let left = s.left in
    let before : 10 ^ (count - keep) ≡ 1 =
    ap (λ (k : ℕ). 10 ^ k) (let z : count - keep ≡ 0 = omega arith in z) in
    let after : 10 ^ (count + 1 - keep) ≡ 1 =
    ap (λ (k : ℕ). 10 ^ k) (let z : count + 1 - keep ≡ 0 = omega arith in z) in
    let small : s.rest < 1 = subst (λ (u : ℕ). s.rest < u) before s.small in
    let none : s.rest ≡ 0 = omega (arith, small) in
    let whole : value ≡ s.kept =
    s.parts ∙ (ap (λ (u : ℕ). s.kept * u + s.rest) before ∙ omega (arith, none)) in
    let some : eqb cut.left 0 ≡ false = ne_eqb cut.left 0 (λ h. omega (arith, left)) in
    rw some (record {
      kept = value * 10 + e;
      rest = 0;
      left = omega (arith, left);
      parts = rw after (omega arith);
      small = rw after (omega arith);
      size =
          ap (λ (t : ℕ). grown t e) s.size
          ∙ (capped_grown s.kept e ∙ ap (λ (k : ℕ). capped (k * 10 + e)) (sym whole));
      more = s.more ∙ ap (λ (r : ℕ). not (eqb r 0)) none;
    })

cut_one : (value count keep c : ℕ) (cut : Cut) → is_digit c ≡ true → keep ≤ count
    → Stands value count keep cut
    → Stands (value * 10 + (c - 48)) (count + 1) keep (with_next cut c)
cut_one value count keep c cut digit le s =
    let e = c - 48 in
    let d = count - keep in
    let few = digit_small c digit in
    let low = digit_large c digit in
    let left = s.left in
    let parts = s.parts in
    let small = s.small in
    let unit : 10 ^ (count + 1 - keep) ≡ 10 ^ d * 10 =
    ap (λ (k : ℕ). 10 ^ k) (let z : count + 1 - keep ≡ suc d = omega arith in z) ∙ ten d in
    let none : eqb cut.left 0 ≡ true = eq-eqb cut.left 0 (omega (arith, left)) in
    rw none (record {
      kept = s.kept;
      rest = s.rest * 10 + e;
      left = omega (arith, left);
      parts = rw unit (omega (arith, parts));
      small = rw unit (omega (arith, small, few));
      size = s.size;
      more = ap (λ (b : Bool). b || not (eqb c 48)) s.more ∙ more_step s.rest c low;
    })

one_stands : (value count keep c : ℕ) (cut : Cut) → is_digit c ≡ true → Stands value count keep cut
    → Stands (value * 10 + (c - 48)) (count + 1) keep (with_next cut c)
one_stands value count keep c cut digit s =
    elim (cases_lt count keep) [
      | inl lt ↦ kept_one value count keep c cut lt s
      | inr le ↦ cut_one value count keep c cut digit le s
    ]

all_stand : (value count keep : ℕ) (cs : List ℕ) (cut : Cut) → AreDigits cs
    → Stands value count keep cut
    → Stands (value_from value cs) (count + length cs) keep (cut_after cut cs)
unfolding cut_after
all_stand value count keep [] cut are s =
    let same : count ≡ count + length {A = ℕ} [] = omega arith in
    subst (λ (n : ℕ). Stands value n keep cut) same s
all_stand value count keep (c ∷ cs) cut are s =
    let same : count + 1 + length cs ≡ count + length (c ∷ cs) = omega arith in
    subst (λ (n : ℕ). Stands (value_from (value * 10 + (c - 48)) cs) n keep
    (cut_after (with_next cut c) cs)) same
    (all_stand (value * 10 + (c - 48)) (count + 1) keep cs (with_next cut c) are.1
    (one_stands value count keep c cut are.0 s))

none_stands : (keep : ℕ) → Stands 0 0 keep (unread keep)
none_stands keep =
    let unit : 10 ^ (0 - keep) ≡ 1 =
    ap (λ (k : ℕ). 10 ^ k) (let z : 0 - keep ≡ 0 = omega arith in z) in
    record {
      kept = 0;
      rest = 0;
      left = omega arith;
      parts = rw unit (omega arith);
      small = rw unit (omega arith);
      size = sym (capped_small 0 (omega arith));
      more = refl;
    }

both_stand : (whole fraction : List ℕ) (places shift : ℕ) → AreDigits whole → AreDigits fraction
    → Stands (value_from 0 (whole ++ fraction)) (length whole + length fraction)
    (keep_of whole places shift) (cut_of whole fraction places shift)
unfolding cut_of
both_stand whole fraction places shift a b =
    let keep = keep_of whole places shift in
    let front = cut_after (unread keep) whole in
    let all = cut_after front fraction in
    let one = all_stand 0 0 keep whole (unread keep) a (none_stands keep) in
    let two = all_stand (value_from 0 whole) (0 + length whole) keep fraction front b one in
    let same : 0 + length whole + length fraction ≡ length whole + length fraction = omega arith in
    subst (λ (v : ℕ). Stands v (length whole + length fraction) keep all)
    (sym (value_append 0 whole fraction))
    (subst (λ (n : ℕ). Stands (value_from (value_from 0 whole) fraction) n keep all) same two)

-- ---- tenths

-- tenths are ten times top / unit, of which a rest below one is cut off
record Tenths (top unit tenths : ℕ) (more : Bool) : Type 0 where
  count : ℕ
  rest : ℕ
  parts : top * 10 ≡ count * unit + rest
  small : rest < unit
  size : tenths ≡ capped count
  more_is : more ≡ not (eqb rest 0)

zero_product : (r x : ℕ) → 1 ≤ x → not (eqb r 0) ≡ not (eqb (r * x) 0)
zero_product r x some =
    elim (cases_eq r 0) [
      | inl none ↦
          let z : r * x ≡ 0 = ap (λ (y : ℕ). y * x) none ∙ omega arith in
          rw (eq-eqb r 0 none, eq-eqb (r * x) 0 z) refl
      | inr ne ↦
          let p = mul-le 1 1 r x (omega arith) some in
          rw (ne_eqb r 0 ne, ne_eqb (r * x) 0 (λ h. omega (arith, p))) refl
    ]

-- ten times a value in parts
ten_times : (value places : ℕ) → value * 10 ^ places * 10 ≡ value * 10 ^ suc places
ten_times value places =
    mul_assoc value (10 ^ places) 10 ∙ ap (λ (x : ℕ). value * x) (sym (ten places))

-- all digits are kept
kept_tenths : (value wide long places shift : ℕ) (cut : Cut) → 0 < wide + long
    → wide + long ≤ wide + places + 1 - shift
    → Stands value (wide + long) (wide + places + 1 - shift) cut
    → Tenths (value * 10 ^ places) (10 ^ (long + shift)) (padded cut.left cut.tenths) cut.more
kept_tenths value wide long places shift cut some le s =
    let keep = wide + places + 1 - shift in
    let zeros = keep - (wide + long) in
    let power : suc places ≡ zeros + (long + shift) = omega arith in
    let unit : 10 ^ (wide + long - keep) ≡ 1 =
    ap (λ (k : ℕ). 10 ^ k) (let z : wide + long - keep ≡ 0 = omega arith in z) in
    let small : s.rest < 1 = subst (λ (u : ℕ). s.rest < u) unit s.small in
    let none : s.rest ≡ 0 = omega (arith, small) in
    let whole : value ≡ s.kept =
    s.parts ∙ (ap (λ (u : ℕ). s.kept * u + s.rest) unit ∙ omega (arith, none)) in
    let split : value * 10 ^ suc places ≡ value * 10 ^ zeros * 10 ^ (long + shift) =
    ap (λ (k : ℕ). value * 10 ^ k) power
    ∙ (ap (λ (x : ℕ). value * x) (pow-add 10 zeros (long + shift))
    ∙ sym (mul_assoc value (10 ^ zeros) (10 ^ (long + shift)))) in
    let plain = value * 10 ^ zeros * 10 ^ (long + shift) in
    let no_rest : plain ≡ plain + 0 = omega arith in
    record {
      count = value * 10 ^ zeros;
      rest = 0;
      parts = ten_times value places ∙ (split ∙ no_rest);
      small = ten_some (long + shift);
      size =
          ap (λ (k : ℕ). padded k cut.tenths) s.left
          ∙ (ap (padded zeros) (s.size ∙ ap (λ (k : ℕ). capped k) (sym whole))
          ∙ pad_capped zeros value);
      more_is = s.more ∙ ap (λ (r : ℕ). not (eqb r 0)) none;
    }

rest_small : (r b x unit : ℕ) → r < b → 1 ≤ x → b * x ≤ unit → r * x < unit
rest_small r b x unit lt some high =
    let p = mul-le (r + 1) x b x (omega arith) (omega arith) in
    let q : (r + 1) * x ≡ r * x + x = omega arith in
    omega (arith, p, q)

split_rest : (k b r x unit value : ℕ) → value ≡ k * b + r → k * unit ≡ k * b * x
    → value * x ≡ k * unit + r * x
split_rest k b r x unit value e same =
    ap (λ (v : ℕ). v * x) e
    ∙ (add-mul (k * b) r x ∙ ap (λ (y : ℕ). y + r * x) (sym same))

-- digits are cut off, and the unit is as large as they ask for
cut_tenths : (value count keep places unit : ℕ) (cut : Cut) (s : Stands value count keep cut)
    → keep ≤ count → s.kept * unit ≡ s.kept * 10 ^ (count - keep) * 10 ^ suc places
    → 10 ^ (count - keep) * 10 ^ suc places ≤ unit
    → Tenths (value * 10 ^ places) unit (padded cut.left cut.tenths) cut.more
cut_tenths value count keep places unit cut s le same high =
    let x = 10 ^ suc places in
    let some = ten_some (suc places) in
    let left : cut.left ≡ 0 = let l = s.left in omega (arith, l) in
    record {
      count = s.kept;
      rest = s.rest * x;
      parts =
          ten_times value places
          ∙ split_rest s.kept (10 ^ (count - keep)) s.rest x unit value s.parts same;
      small = rest_small s.rest (10 ^ (count - keep)) x unit s.small some high;
      size = zeros_end cut.left cut.tenths left ∙ s.size;
      more_is = s.more ∙ zero_product s.rest x some;
    }

-- a number below its unit has no whole part
none_kept : (k b r value : ℕ) → value ≡ k * b + r → value < b → k ≡ 0
none_kept zero b r value e lt = refl
none_kept (suc k) b r value e lt =
    let p = mul-le 1 b (suc k) b (omega arith) (omega arith) in
    absurd (omega (arith, e, lt, p))

text_tenths : (value wide long places shift : ℕ) (cut : Cut) → 0 < wide + long
    → value < 10 ^ (wide + long) → Stands value (wide + long) (wide + places + 1 - shift) cut
    → Tenths (value * 10 ^ places) (10 ^ (long + shift)) (padded cut.left cut.tenths) cut.more
text_tenths value wide long places shift cut some below s =
    let count = wide + long in
    let keep = wide + places + 1 - shift in
    elim (cases_lt keep count) [
      | inl lt ↦
          let d = count - keep in
          elim (cases_lt (wide + places + 1) shift) [
            | inl far ↦
                let whole : d ≡ count = omega arith in
                let value_below : value < 10 ^ d =
                subst (λ (k : ℕ). value < 10 ^ k) (sym whole) below in
                let none : s.kept ≡ 0 =
                none_kept s.kept (10 ^ d) s.rest value s.parts value_below in
                let sum : d + suc places ≤ long + shift = omega arith in
                let power : 10 ^ (d + suc places) ≤ 10 ^ (long + shift) =
                pow-le-pow_right (omega arith) sum in
                let unit = pow-add 10 d (suc places) in
                let high : 10 ^ d * 10 ^ suc places ≤ 10 ^ (long + shift) =
                subst (λ (x : ℕ). x ≤ 10 ^ (long + shift)) unit power in
                let zero_left : s.kept * 10 ^ (long + shift) ≡ 0 =
                ap (λ (k : ℕ). k * 10 ^ (long + shift)) none ∙ omega arith in
                let zero_right : s.kept * 10 ^ d * 10 ^ suc places ≡ 0 =
                ap (λ (k : ℕ). k * 10 ^ d * 10 ^ suc places) none ∙ omega arith in
                cut_tenths value count keep places (10 ^ (long + shift)) cut s (omega arith)
                (zero_left ∙ sym zero_right) high
            | inr within ↦
                let sum : long + shift ≡ d + suc places = omega arith in
                let unit : 10 ^ (long + shift) ≡ 10 ^ d * 10 ^ suc places =
                ap (λ (k : ℕ). 10 ^ k) sum ∙ pow-add 10 d (suc places) in
                let same : s.kept * 10 ^ (long + shift) ≡ s.kept * 10 ^ d * 10 ^ suc places =
                ap (λ (u : ℕ). s.kept * u) unit
                ∙ sym (mul_assoc s.kept (10 ^ d) (10 ^ suc places)) in
                let high : 10 ^ d * 10 ^ suc places ≤ 10 ^ (long + shift) = omega (arith, unit) in
                cut_tenths value count keep places (10 ^ (long + shift)) cut s (omega arith) same
                high
          ]
      | inr le ↦ kept_tenths value wide long places shift cut some le s
    ]

-- ---- the nearest

cut_down : (top u q g r : ℕ) → 1 ≤ u → r < u → g ≤ 4 → top * 10 ≡ (q * 10 + g) * u + r
    → IsNearestWhole top u q
cut_down top u q g r some small few e =
    let b = mul-le g u 4 u few (omega arith) in
    record {
      low = omega (arith, e, b);
      high = omega (arith, e, b);
      ties = λ odd. (omega (arith, e, b), omega (arith, e, b));
    }

half_down : (top u q r : ℕ) → 1 ≤ u → r ≡ 0 → (q % 2 ≡ 1 → ⊥)
    → top * 10 ≡ (q * 10 + 5) * u + r → IsNearestWhole top u q
half_down top u q r some none even e = record {
  low = omega (arith, e);
  high = omega (arith, e);
  ties = λ odd. absurd (even odd);
}

half_up : (top u q r : ℕ) → 1 ≤ u → r < u → q % 2 ≡ 1 → top * 10 ≡ (q * 10 + 5) * u + r
    → IsNearestWhole top u (q + 1)
half_up top u q r some small odd e = record {
  low = omega (arith, e);
  high = omega (arith, e);
  ties = λ odd_next. absurd (omega (arith, odd, odd_next));
}

more_up : (top u q r : ℕ) → 1 ≤ u → r < u → 0 < r → top * 10 ≡ (q * 10 + 5) * u + r
    → IsNearestWhole top u (q + 1)
more_up top u q r some small more e = record {
  low = omega (arith, e);
  high = omega (arith, e);
  ties = λ odd. (omega (arith, e), omega (arith, e));
}

cut_up : (top u q g r : ℕ) → 1 ≤ u → r < u → 6 ≤ g → g ≤ 9 → top * 10 ≡ (q * 10 + g) * u + r
    → IsNearestWhole top u (q + 1)
cut_up top u q g r some small many few e =
    let a = mul-le 6 u g u many (omega arith) in
    let b = mul-le g u 9 u few (omega arith) in
    record {
      low = omega (arith, e, a, b);
      high = omega (arith, e, a, b);
      ties = λ odd. (omega (arith, e, a, b), omega (arith, e, a, b));
    }

nearest_is : (top u t : ℕ) (more : Bool) (r : ℕ) → 1 ≤ u → r < u → top * 10 ≡ t * u + r
    → more ≡ not (eqb r 0) → IsNearestWhole top u (nearest_of t more)
unfolding nearest_of is_up
nearest_is top u t more r some small e is =
    let q = t / 10 in
    let g = t % 10 in
    let few = mod_below t 10 (omega arith) in
    let f : top * 10 ≡ (q * 10 + g) * u + r =
    e ∙ ap (λ (x : ℕ). x * u + r) (sym (div-add-mod' t 10)) in
    elim (cases_lt g 5) [
      | inl lt ↦
          rw (le-ltb 5 g (omega arith), ne_eqb g 5 (λ h. omega arith))
          (cut_down top u q g r some small (omega arith) f)
      | inr le ↦ elim (cases_eq g 5) [
        | inl five ↦
            let half : top * 10 ≡ (q * 10 + 5) * u + r =
            f ∙ ap (λ (x : ℕ). (q * 10 + x) * u + r) five in
            elim (cases_eq r 0) [
              | inl none ↦
                  let no : more ≡ false = is ∙ ap not (eq-eqb r 0 none) in
                  elim (cases_eq (q % 2) 1) [
                    | inl odd ↦
                        rw (five, no, eq-eqb (q % 2) 1 odd)
                        (half_up top u q r some small odd half)
                    | inr even ↦
                        rw (five, no, ne_eqb (q % 2) 1 even)
                        (half_down top u q r some none even half)
                  ]
              | inr beyond ↦
                  let yes : more ≡ true = is ∙ ap not (ne_eqb r 0 beyond) in
                  rw (five, yes) (more_up top u q r some small (omega arith) half)
            ]
        | inr other ↦
            rw (lt-ltb 5 g (omega arith))
            (cut_up top u q g r some small (omega arith) (omega arith) f)
      ]
    ]

-- ---- whether nothing was rounded

no_more : (r : ℕ) (more : Bool) → more ≡ not (eqb r 0) → not more ≡ true → r ≡ 0
no_more zero more e h = refl
no_more (suc r) more e h =
    let some : eqb (suc r) 0 ≡ false = ne_eqb (suc r) 0 (λ z. omega (arith, z)) in
    absurd (let f : not more ≡ false = ap not (e ∙ ap not some) in cc)

some_more : (r : ℕ) (more : Bool) → more ≡ not (eqb r 0) → not more ≡ false → 0 < r
some_more zero more e h = absurd (let f : not more ≡ true = ap not e in cc)
some_more (suc r) more e h = omega arith

same_part : (top u q r : ℕ) → r ≡ 0 → top * 10 ≡ q * 10 * u + r → top ≡ q * u
same_part top u q r none e = omega (arith, none, e)

exact_is : (top u t : ℕ) (more : Bool) (r : ℕ) → top * 10 ≡ t * u + r → more ≡ not (eqb r 0)
    → is_exact t more ≡ true → top ≡ nearest_of t more * u
unfolding is_exact nearest_of is_up
exact_is top u t more r e is h =
    let p = and_parts (eqb (t % 10) 0) (not more) h in
    let none = eqb-true (t % 10) 0 p.0 in
    let split : t ≡ t / 10 * 10 = let d = div-add-mod' t 10 in omega (arith, d, none) in
    let f : top * 10 ≡ t / 10 * 10 * u + r = e ∙ ap (λ (x : ℕ). x * u + r) split in
    rw none (same_part top u (t / 10) r (no_more r more is p.1) f)

not_same : (top u q g r : ℕ) → 0 < g * u + r → top * 10 ≡ (q * 10 + g) * u + r → top ≡ q * u → ⊥
not_same top u q g r some e h = omega (arith, some, e, h)

not_next : (top u q g r : ℕ) → 1 ≤ u → r < u → g ≤ 9 → top * 10 ≡ (q * 10 + g) * u + r
    → top ≡ (q + 1) * u → ⊥
not_next top u q g r some small few e h =
    let b = mul-le g u 9 u few (omega arith) in
    omega (arith, e, h, b)

-- something stands behind the parts
some_behind : (u t : ℕ) (more : Bool) (r : ℕ) → 1 ≤ u → more ≡ not (eqb r 0)
    → is_exact t more ≡ false → 0 < t % 10 * u + r
unfolding is_exact
some_behind u t more r some is h =
    elim (and_cases (eqb (t % 10) 0) (not more) h) [
      | inl digit ↦
          let ne = eqb-false (t % 10) 0 digit in
          let p = mul-le 1 1 (t % 10) u (omega arith) some in
          omega (arith, p)
      | inr beyond ↦
          let rest = some_more r more is beyond in
          omega (arith, rest)
    ]

inexact_is : (top u t : ℕ) (more : Bool) (r : ℕ) → 1 ≤ u → r < u → top * 10 ≡ t * u + r
    → more ≡ not (eqb r 0) → is_exact t more ≡ false → top ≡ nearest_of t more * u → ⊥
unfolding nearest_of
inexact_is top u t more r some small e is h same =
    let q = t / 10 in
    let g = t % 10 in
    let few = mod_below t 10 (omega arith) in
    let f : top * 10 ≡ (q * 10 + g) * u + r =
    e ∙ ap (λ (x : ℕ). x * u + r) (sym (div-add-mod' t 10)) in
    elim (cases_Bool (is_up t more)) [
      | inl up ↦ not_next top u q g r some small (omega arith) f (rw up at same)
      | inr down ↦ not_same top u q g r (some_behind u t more r some is h) f (rw down at same)
    ]

rounds : (top u t : ℕ) (more : Bool) (r : ℕ) → 1 ≤ u → r < u → top * 10 ≡ t * u + r
    → more ≡ not (eqb r 0)
    → IsRounded top u (as_parts t more)
rounds top u t more r some small e is = record {
  nearest = nearest_is top u t more r some small e is;
  exact = λ h. exact_is top u t more r e is h;
  inexact = λ h same. inexact_is top u t more r some small e is h same;
}

-- ---- what is answered

tenths_round : (top u tenths : ℕ) (more : Bool) → 1 ≤ u → (x : Tenths top u tenths more)
    → x.count < limit
    → IsRounded top u (as_parts tenths more)
tenths_round top u tenths more some x lt =
    let same : tenths ≡ x.count = x.size ∙ capped_small x.count lt in
    rounds top u tenths more x.rest some x.small
    (x.parts ∙ ap (λ (t : ℕ). t * u + x.rest) (sym same)) x.more_is

limit_refused : (more : Bool) (n : Nearest) → rounded_at limit more ≡ Ok n → ⊥
unfolding rounded_at nearest_of is_up
limit_refused more n h =
    absurd (let g : ◌≡◌ {A = Result Nearest DecimalError} (Err Large) (Ok n) = h in cc)

tenths_take : (top u tenths : ℕ) (more : Bool) (n : Nearest) → 1 ≤ u → Tenths top u tenths more
    → rounded_at tenths more ≡ Ok n → IsRounded top u n
unfolding rounded_at
tenths_take top u tenths more n some x h =
    elim (cases_lt x.count limit) [
      | inl lt ↦
          let p = passed (ltb (nearest_of tenths more) (2 ^ 63)) Large _ n h in
          subst (IsRounded top u) (same_value (as_parts tenths more) n p.1) (tenths_round top u tenths more some x lt)
      | inr le ↦
          absurd (limit_refused more n
          (subst (λ (t : ℕ). rounded_at t more ≡ Ok n) (x.size ∙ capped_large x.count le) h))
    ]

same_exact : (top u : ℕ) (a b : Nearest) → a.size ≡ b.size → IsRounded top u a
    → IsRounded top u b → a.exact ≡ b.exact
same_exact top u a b e x y =
    elim (cases_Bool a.exact) [
      | inl t ↦ elim (cases_Bool b.exact) [
        | inl s ↦ t ∙ sym s
        | inr f ↦ absurd (y.inexact f (x.exact t ∙ ap (λ (k : ℕ). k * u) e))
      ]
      | inr f ↦ elim (cases_Bool b.exact) [
        | inl t ↦ absurd (x.inexact f (y.exact t ∙ ap (λ (k : ℕ). k * u) (sym e)))
        | inr s ↦ f ∙ sym s
      ]
    ]

same_nearest : (a b : Nearest) → a.size ≡ b.size → a.exact ≡ b.exact
    → ◌≡◌ {A = Result Nearest DecimalError} (Ok a) (Ok b)
same_nearest a b e f =
    ap (λ (x : ℕ). let r : Result Nearest DecimalError = Ok (record { size = x; exact = a.exact })
    in r) e
    ∙ ap (λ (x : Bool). let r : Result Nearest DecimalError = Ok (record {
      size = b.size;
      exact = x;
    }) in r) f

-- no number below 2^63 is the nearest to one at the limit
too_large : (top u r n count : ℕ) → limit ≤ count → top * 10 ≡ count * u + r → 1 ≤ u → n < 2 ^ 63
    → IsNearestWhole top u n → ⊥
too_large top u r n count le e some lt x =
    let a = mul-le (10 * 2 ^ 63) u count u le (omega arith) in
    let b = mul-le n u (2 ^ 63 - 1) u (omega arith) (omega arith) in
    let c = x.high in
    omega (arith, e, a, b, c, some)

tenths_again : (top u tenths : ℕ) (more : Bool) (n : Nearest) → 1 ≤ u → Tenths top u tenths more
    → n.size < 2 ^ 63 → IsRounded top u n → rounded_at tenths more ≡ Ok n
unfolding rounded_at
tenths_again top u tenths more n some x small y =
    elim (cases_lt x.count limit) [
      | inl lt ↦
          let made = as_parts tenths more in
          let own : IsRounded top u made = tenths_round top u tenths more some x lt in
          let same : nearest_of tenths more ≡ n.size =
          nearest_only top u (nearest_of tenths more) n.size some own.nearest y.nearest in
          rw (lt-ltb (nearest_of tenths more) (2 ^ 63) (omega (arith, same, small)))
          (same_nearest made n same (same_exact top u made n same own y))
      | inr le ↦ absurd (too_large top u x.rest n.size x.count le x.parts some small y.nearest)
    ]

-- ---- texts

both_digits : (xs ys : List ℕ) → AreDigits xs → AreDigits ys → AreDigits (xs ++ ys)
both_digits [] ys a b = b
both_digits (x ∷ xs) ys a b = (a.0, both_digits xs ys a.1 b)

digits_tenths : (whole fraction : List ℕ) (places shift : ℕ) → AreDigits whole
    → AreDigits fraction → 0 < length whole + length fraction
    → Tenths (value_from 0 (whole ++ fraction) * 10 ^ places) (10 ^ (length fraction + shift))
    (padded (cut_of whole fraction places shift).left (cut_of whole fraction places shift).tenths)
    (cut_of whole fraction places shift).more
digits_tenths whole fraction places shift a b some =
    let all = whole ++ fraction in
    let small = (behind 0 all (both_digits whole fraction a b)).small in
    let below : value_from 0 all < 10 ^ (length whole + length fraction) =
    subst (λ (k : ℕ). value_from 0 all < 10 ^ k) (length-append whole fraction) small in
    text_tenths (value_from 0 all) (length whole) (length fraction) places shift
    (cut_of whole fraction places shift) some below
    (both_stand whole fraction places shift a b)

nearest_takes : (text : List ℕ) (places shift : ℕ) (n : Nearest)
    → nearest_at text places shift ≡ Ok n → IsNearest text places shift n
unfolding nearest_at of_cut
nearest_takes text places shift n h =
    let d = bind_ok (digits_at text) _ n h in
    let digits = digits_take text d.0 d.1 in
    let tenths = digits_tenths d.0.0 d.0.1 places shift digits.whole_digits digits.fraction_digits
    digits.some in
    record {
      whole = d.0.0;
      fraction = d.0.1;
      digits = digits;
      rounded =
          tenths_take _ (10 ^ (length d.0.1 + shift)) _ _ n (ten_some (length d.0.1 + shift))
          tenths d.2;
    }

-- what is read is below 2^63
pub nearest_small : (text : List ℕ) (places shift : ℕ) (n : Nearest)
    → nearest_at text places shift ≡ Ok n → n.size < 2 ^ 63
unfolding nearest_at of_cut rounded_at
nearest_small text places shift n h =
    let d = bind_ok (digits_at text) _ n h in
    let cut = cut_of d.0.0 d.0.1 places shift in
    let tenths = padded cut.left cut.tenths in
    let p = passed (ltb (nearest_of tenths cut.more) (2 ^ 63)) Large _ n d.2 in
    subst (λ (x : Nearest). x.size < 2 ^ 63) (same_value (as_parts tenths cut.more) n p.1)
    (ltb-true (nearest_of tenths cut.more) (2 ^ 63) p.0)

nearest_again : (text : List ℕ) (places shift : ℕ) (n : Nearest) → n.size < 2 ^ 63
    → IsNearest text places shift n → nearest_at text places shift ≡ Ok n
unfolding nearest_at of_cut
nearest_again text places shift n lt x =
    let tenths = digits_tenths x.whole x.fraction places shift x.digits.whole_digits
    x.digits.fraction_digits x.digits.some in
    rw (digits_again text x.whole x.fraction x.digits)
    (tenths_again _ (10 ^ (length x.fraction + shift)) _ _ n
    (ten_some (length x.fraction + shift)) tenths lt x.rounded)

-- a whole number is the nearest to itself
itself : (top u n : ℕ) → 1 ≤ u → top ≡ n * u → IsNearestWhole top u n
itself top u n some same = record {
  low = omega (arith, same);
  high = omega (arith, same);
  ties = λ odd. (omega (arith, same, some), omega (arith, same, some));
}

-- a text that writes a number of parts gives it, and nothing is rounded
pub exactly_again : (text : List ℕ) (places n : ℕ) → n < 2 ^ 63 → IsDecimal text places n
    → nearest_at text places 0 ≡ Ok (record { size = n; exact = true })
exactly_again text places n lt x =
    let long = length x.fraction in
    let top = value_from 0 (x.whole ++ x.fraction) * 10 ^ places in
    let unit : 10 ^ (long + 0) ≡ 10 ^ long =
    ap (λ (k : ℕ). 10 ^ k) (let z : long + 0 ≡ long = omega arith in z) in
    let same : top ≡ n * 10 ^ (long + 0) = x.exact ∙ ap (λ (u : ℕ). n * u) (sym unit) in
    let some = ten_some (long + 0) in
    nearest_again text places 0 (record { size = n; exact = true }) lt (record {
      whole = x.whole;
      fraction = x.fraction;
      digits = x.digits;
      rounded = record {
        nearest = itself top (10 ^ (long + 0)) n some same;
        exact = λ h. same;
        inexact = λ h e. absurd (let f : true ≡ false = h in cc);
      };
    })

-- what a call that answers so has found
pub found_in : (text : List ℕ) (places shift : ℕ) (r : Result Nearest DecimalError)
    → Answers (λ (n : Nearest). n) r (nearest_at text places shift)
    → IfOk r (IsNearest text places shift)
found_in text places shift (Ok n) h = nearest_takes text places shift n h
found_in text places shift (Err e) h = tt

pub only_in : (text : List ℕ) (places shift : ℕ) (r : Result Nearest DecimalError) (n : Nearest)
    → Answers (λ (n : Nearest). n) r (nearest_at text places shift) → n.size < 2 ^ 63
    → IsNearest text places shift n → r ≡ Ok n
only_in text places shift (Ok m) n h lt x = sym h ∙ nearest_again text places shift n lt x
only_in text places shift (Err e) n h lt x = sym h ∙ nearest_again text places shift n lt x
