-- Spans of windows, one after another.
use Rattle.std.proofs.Common.{◌≡◌, inl, inr, ⊎_elim, ℕ}
use Rattle.std.proofs.Common.{◌+◌, ◌*◌, ◌^◌, ◌≤◌, ◌<◌, List, arith}
use Rattle.std.proofs.Common.{subst, sym, ap, ◌∙◌, min, Option, Some, None}
use Rattle.std.specs.Prelude.{ℤ, IfSome, unwrap_or}
use Rattle.std.proofs.Math.Nat.{pow-le-pow_right, mul-le-mul_left, mul_assoc}
use Rattle.std.proofs.lemmas.Nat.{pow-add}
use Rattle.std.proofs.lemmas.Bool.{cases_lt, cases_eq}
use Rattle.join_schedule.specs.declared.blocks.Shape.{Shape}
use Rattle.join_schedule.specs.declared.blocks.Limits.{Limits}
use Rattle.join_schedule.specs.declared.blocks.Run.{Run}
use Rattle.join_schedule.specs.Windows.{IsWindowSpan, FillsWindow, IsFirstWindow}

powers_rise : (i j : ℕ) → i ≤ j → 3 ^ i ≤ 3 ^ j
powers_rise i j le =
    let some : 0 < 3 = omega arith in
    pow-le-pow_right some le

threefold : (c p : ℕ) → c * 3 ^ ((p + 1) + 1) ≡ (c * 3 ^ (p + 1)) * 3
threefold c p =
    let e : 3 ^ ((p + 1) + 1) ≡ 3 ^ (p + 1) * 3 = pow-add 3 (p + 1) 1 in
    ap (λ (x : ℕ). c * x) e ∙ sym (mul_assoc c (3 ^ (p + 1)) 3)

-- of two such spans the larger is three times the smaller, or more
apart : (c p q : ℕ) → c * 3 ^ (p + 1) < c * 3 ^ (q + 1) → (c * 3 ^ (p + 1)) * 3 ≤ c * 3 ^ (q + 1)
apart c p q lt =
    ⊎_elim
    (λ (less : p < q).
    let more : c * 3 ^ ((p + 1) + 1) ≤ c * 3 ^ (q + 1) =
    mul-le-mul_left c (powers_rise ((p + 1) + 1) (q + 1) (omega (arith, less))) in
    omega (arith, more, threefold c p))
    (λ (not_less : q ≤ p).
    let back : c * 3 ^ (q + 1) ≤ c * 3 ^ (p + 1) =
    mul-le-mul_left c (powers_rise (q + 1) (p + 1) (omega (arith, not_less))) in
    absurd (omega (arith, lt, back)))
    (cases_lt p q)

least_span : (c q : ℕ) → c * 3 ≤ c * 3 ^ (q + 1)
least_span c q =
    let three : 3 ≤ 3 ^ (q + 1) = powers_rise 1 (q + 1) (omega arith) in
    mul-le-mul_left c three

-- the span that is looked at: no shorter window fits
pub record IsReached (limits : Limits) (floor : ℤ) (blocks : List Shape) (span : ℕ) : Type 0 where
  pub some : 0 < span
  pub power : ℕ
  pub is : span ≡ min (limits.cut * 3 ^ (power + 1)) 18446744073709551615
  pub none : (n : ℕ) (run : Run) → IsWindowSpan limits n → FillsWindow limits floor blocks n run
      → span ≤ n

pub reached_first : (limits : Limits) (floor : ℤ) (blocks : List Shape) (span : ℕ)
    → 0 < limits.cut → span ≡ min (limits.cut * 3) 18446744073709551615
    → IsReached limits floor blocks span
reached_first limits floor blocks span some is = record {
  some = omega (arith, is, some);
  power = 0;
  is = is;
  none = λ n run is_span fills.
      omega (arith, is, is_span.cuts, least_span limits.cut is_span.power);
}

module _ (limits : Limits) (floor : ℤ) (blocks : List Shape) (span : ℕ)
    (reached : IsReached limits floor blocks span) (inside : span ≤ 9223372036854775807) where
  pub cuts_are : span ≡ limits.cut * 3 ^ (reached.power + 1)
  cuts_are = omega (arith, inside, reached.is)

  next_not_above : (n : ℕ) (run : Run) → ((run : Run) → FillsWindow limits floor blocks span run → ⊥)
      → IsWindowSpan limits n → FillsWindow limits floor blocks n run → span * 3 ≤ n
  next_not_above n run nothing is_span fills =
      let not_same : (span ≡ n → ⊥) =
      λ same. nothing run (subst (λ (k : ℕ). FillsWindow limits floor blocks k run) (sym same) fills) in
      let here = cuts_are in
      let not_less : span ≤ n = reached.none n run is_span fills in
      let more : (limits.cut * 3 ^ (reached.power + 1)) * 3 ≤ limits.cut * 3 ^ (is_span.power + 1) =
      apart limits.cut reached.power is_span.power
      (omega (arith, here, is_span.cuts, not_less, not_same)) in
      omega (arith, here, is_span.cuts, more)

  pub reached_next : (next : ℕ) → next ≡ min (span * 3) 18446744073709551615
      → ((run : Run) → FillsWindow limits floor blocks span run → ⊥)
      → IsReached limits floor blocks next
  reached_next next is nothing = record {
    some = omega (arith, is, reached.some);
    power = reached.power + 1;
    is = omega (arith, is, cuts_are, threefold limits.cut reached.power);
    none = λ n run is_span fills.
        omega (arith, is, next_not_above n run nothing is_span fills);
  }

  pub is_window_span : IfSome limits.longest_window (λ n. span ≤ n) → IsWindowSpan limits span
  is_window_span not_longer = record {
    power = reached.power;
    cuts = cuts_are;
    not_longer = not_longer;
    is_span = (reached.some, inside);
  }

  pub is_first : (run : Run) → IsWindowSpan limits span → FillsWindow limits floor blocks span run
      → ((other : Run) → FillsWindow limits floor blocks span other → run.at ≤ other.at)
      → IsFirstWindow limits floor blocks run
  is_first run is_span fills first = record {
    span = span;
    is_span = is_span;
    fills = fills;
    first = λ n other of_other filled.
        ⊎_elim
        (λ (same : span ≡ n). inr (
          same,
          first other
              (subst (λ (k : ℕ). FillsWindow limits floor blocks k other) (sym same) filled),
        ))
        (λ (not_same : span ≡ n → ⊥).
        let not_less : span ≤ n = reached.none n other of_other filled in
        inl (omega (arith, not_less, not_same)))
        (cases_eq span n);
  }

pub longest_within : (o : Option ℕ) (span : ℕ)
    → span ≤ min (unwrap_or o 9223372036854775807) 9223372036854775807
    → IfSome o (λ n. span ≤ n) × (span ≤ 9223372036854775807)
longest_within None span le = (tt, omega (arith, le))
longest_within (Some n) span le = (omega (arith, le), omega (arith, le))

within_longest : (o : Option ℕ) (span : ℕ) → IfSome o (λ n. span ≤ n)
    → span ≤ 9223372036854775807
    → span ≤ min (unwrap_or o 9223372036854775807) 9223372036854775807
within_longest None span le top = omega (arith, top)
within_longest (Some n) span le top = omega (arith, le, top)

pub none_left : (limits : Limits) (floor : ℤ) (blocks : List Shape) (span : ℕ)
    → IsReached limits floor blocks span
    → min (unwrap_or limits.longest_window 9223372036854775807) 9223372036854775807 < span
    → (n : ℕ) (run : Run) → IsWindowSpan limits n → FillsWindow limits floor blocks n run → ⊥
none_left limits floor blocks span reached beyond n run is_span fills =
    let not_less : span ≤ n = reached.none n run is_span fills in
    let within = within_longest limits.longest_window n is_span.not_longer is_span.is_span.1 in
    omega (arith, beyond, not_less, within)
