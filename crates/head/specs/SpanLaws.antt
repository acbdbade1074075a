-- Numbers that follow one another.
use Rattle.std.proofs.Common.{◌≡◌, ℕ, zero, suc, ◌+◌, ◌-◌, ◌<◌, ◌≤◌, true, false, cond, ◌⊎◌, inl}
use Rattle.std.proofs.Common.{inr, [], ◌∷◌, min, ◌∙◌, ap, arith}
use Rattle.std.specs.Prelude.{nat_le}
use Rattle.std.specs.List.{range_with_len, Contains}
use Rattle.std.specs.List.Sorted.{IsStrictlyIncreasing}
use Rattle.std.proofs.lemmas.Bool.Decides.{nat_tests}
use Rattle.labels.specs.Ascending.{not_below}
use Rattle.labels.proofs.Lists.{Contains-cases, none_in_nil, rising-cons, filter-all}

-- a span has what lies in it
pub in_span : (a n r : ℕ) → Contains (range_with_len a n) r → (a ≤ r) × (r < a + n)
in_span a zero r c = absurd (none_in_nil r c)
in_span a (suc n) r c = elim (Contains-cases a (range_with_len (a + 1) n) r c) [
  | inl e ↦ (omega (arith, e), omega (arith, e))
  | inr d ↦ let ih = in_span (a + 1) n r d in (omega (arith, ih.0), omega (arith, ih.1))
]

pub span_rises : (a n : ℕ) → IsStrictlyIncreasing (range_with_len a n)
span_rises a zero = λ k l. absurd (omega (arith, l))
span_rises a (suc n) =
    rising-cons a (range_with_len (a + 1) n)
    (λ r c. let l = (in_span (a + 1) n r c).0 in omega (arith, l)) (span_rises (a + 1) n)

pub le_test : (r s : ℕ) → r ≤ s → nat_le r s ≡ true
le_test r s h = grind (arith, nat_tests)

pub lt_test : (r s : ℕ) → s < r → nat_le r s ≡ false
lt_test r s h = grind (arith, nat_tests)

from_here : (a n t : ℕ) → t ≤ a → not_below t (range_with_len a n) ≡ range_with_len a n
from_here a n t l =
    filter-all (λ r. nat_le t r) (range_with_len a n)
    (λ r c. let m = (in_span a n r c).0 in le_test t r (omega (arith, m, l)))

pub below_or_from : (t a : ℕ) → (a < t) ⊎ (t ≤ a)
below_or_from zero a = inr (omega arith)
below_or_from (suc t) zero = inl (omega arith)
below_or_from (suc t) (suc a) =
    elim (below_or_from t a) [ inl l ↦ inl (omega (arith, l)) | inr l ↦ inr (omega (arith, l)) ]

-- what a seek passes over
pub span_sought : (n a t k : ℕ) → k ≡ min (t - a) n
    → not_below t (range_with_len a n) ≡ range_with_len (a + k) (n - k)
span_sought zero a t k e =
    let z : zero ≡ zero - k = omega arith in ap (λ m. range_with_len (a + k) m) z
span_sought (suc n) a t k e = elim (below_or_from t a) [
  | inl l ↦
      let ih : not_below t (range_with_len (a + 1) n)
      ≡ range_with_len (a + 1 + (k - 1)) (n - (k - 1)) = span_sought n (a + 1) t (k - 1)
      (omega (arith, e, l)) in
      let p : a + 1 + (k - 1) ≡ a + k = omega (arith, e, l) in
      let q : n - (k - 1) ≡ suc n - k = omega (arith, e, l) in
      ap (λ b. cond b (a ∷ not_below t (range_with_len (a + 1) n))
      (not_below t (range_with_len (a + 1) n))) (lt_test t a l)
      ∙ ih ∙ (λ i. range_with_len (p i) (q i))
  | inr l ↦
      let p : a ≡ a + k = omega (arith, e, l) in
      let q : suc n ≡ suc n - k = omega (arith, e, l) in
      from_here a (suc n) t l ∙ (λ i. range_with_len (p i) (q i))
]

pub span_past : (n a t : ℕ) → n ≤ t - a → not_below t (range_with_len a n) ≡ []
span_past n a t l =
    let none : n - n ≡ zero = omega arith in
    span_sought n a t n (omega (arith, l)) ∙ ap (λ m. range_with_len (a + n) m) none
