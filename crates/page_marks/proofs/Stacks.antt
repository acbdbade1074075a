-- Slots one after the other: how many of them occur, and how many intervals they have.
use Rattle.std.proofs.Common.{◌≡◌, ℕ, zero, suc, ◌+◌, ◌<◌, ◌≤◌, Bool, true, false, List, [], ◌∷◌}
use Rattle.std.proofs.Common.{length, ◌⊎◌, inl, inr, refl, ap, add-one, arith, eqb, ltb}
use Rattle.std.proofs.Common.{le-ltb, lt-ltb, ltb-true, eq-eqb, ne_eqb}
use Rattle.std.specs.Prelude.{nat_lt, ◌==◌, if◌then◌else◌}
use Rattle.std.proofs.lemmas.Bool.{cases_order}
use Rattle.cover.specs.declared.certificate.Interval.{Interval}
use Rattle.cover.specs.declared.certificate.Verdict.{Verdict}
use Rattle.cover.specs.declared.certificate.Verdict.TheVariants.{Match, NoSample, Rejected}
use Rattle.page_claims.specs.Counting.{slot_of, count_in}
use Rattle.page_marks.specs.Tiles.{kinds_below, count_below}

abbrev pub one_if : Bool → ℕ
one_if b = if b then 1 else 0

at_most_one : (b : Bool) → one_if b ≤ 1
at_most_one true = let h : 1 ≤ 1 = omega arith in h
at_most_one false = let h : 0 ≤ 1 = omega arith in h

pub kinds_none : (is : List Interval) → kinds_below is 0 ≡ 0
unfolding kinds_below
kinds_none is = refl

pub kinds_more : (is : List Interval) (n : ℕ)
    → kinds_below is (n + 1) ≡ kinds_below is n + one_if (nat_lt 0 (count_in n is))
unfolding kinds_below
kinds_more is n = ap (λ (m : ℕ). kinds_below is m) (add-one n)

few_more : (k n o : ℕ) → k ≤ n → o ≤ 1 → k + o ≤ suc n
few_more k n o h one = omega arith

pub kinds_few : (is : List Interval) (n : ℕ) → kinds_below is n ≤ n
unfolding kinds_below
kinds_few is zero = let h : 0 ≤ 0 = omega arith in h
kinds_few is (suc n) =
    few_more (kinds_below is n) n (one_if (nat_lt 0 (count_in n is))) (kinds_few is n)
    (at_most_one (nat_lt 0 (count_in n is)))

add_none : (a b : ℕ) → a ≡ 0 → b ≡ 0 → a + b ≡ 0
add_none a b e h = omega arith

pub below_none : (is : List Interval) → count_below is 0 ≡ 0
below_none [] = refl
below_none (i ∷ is) =
    add_none (one_if (nat_lt (slot_of i.verdict) 0)) (count_below is 0)
    (ap one_if (le-ltb (slot_of i.verdict) 0 (omega arith))) (below_none is)

-- below the next number is below this one or at it
split : (s n : ℕ) → one_if (ltb s (n + 1)) ≡ one_if (ltb s n) + one_if (eqb s n)
split s n = pick (cases_order s n)
  where
    pick : (s ≡ n) ⊎ ((s < n) ⊎ (n < s))
        → one_if (ltb s (n + 1)) ≡ one_if (ltb s n) + one_if (eqb s n)
    pick (inl e) =
        rw (lt-ltb s (n + 1) (omega arith), le-ltb s n (omega arith), eq-eqb s n e) refl
    pick (inr (inl h)) =
        rw (lt-ltb s (n + 1) (omega arith), lt-ltb s n h, ne_eqb s n (λ e. omega arith)) refl
    pick (inr (inr h)) =
        rw (
          le-ltb s (n + 1) (omega arith),
          le-ltb s n (omega arith),
          ne_eqb s n (λ e. omega arith),
        ) refl

add_split : (a b c d e f : ℕ) → a ≡ b + c → d ≡ e + f → a + d ≡ (b + e) + (c + f)
add_split a b c d e f g h = omega arith

pub below_more : (is : List Interval) (n : ℕ)
    → count_below is (n + 1) ≡ count_below is n + count_in n is
below_more [] n = refl
below_more (i ∷ is) n =
    let s = slot_of i.verdict in
    add_split (one_if (nat_lt s (n + 1))) (one_if (nat_lt s n)) (one_if (s == n))
    (count_below is (n + 1)) (count_below is n) (count_in n is) (split s n) (below_more is n)

within_more : (a b c : ℕ) → a ≤ 1 → b ≤ c → a + b ≤ suc c
within_more a b c one h = omega arith

pub below_within : (is : List Interval) (n : ℕ) → count_below is n ≤ length is
below_within [] n = let h : 0 ≤ 0 = omega arith in h
below_within (i ∷ is) n =
    within_more (one_if (nat_lt (slot_of i.verdict) n)) (count_below is n) (length is)
    (at_most_one (nat_lt (slot_of i.verdict) n)) (below_within is n)

pub below_room : (is : List Interval) (n : ℕ) → count_below is n + count_in n is ≤ length is
below_room is n =
    let e = below_more is n in
    let h = below_within is (n + 1) in
    omega (arith, e, h)

slot_few : (v : Verdict) → slot_of v < 19
slot_few Match = let h : 0 < 19 = omega arith in h
slot_few NoSample = let h : 18 < 19 = omega arith in h
slot_few (Rejected m) = pick (ltb m 16) refl
  where
    pick : (b : Bool) → ltb m 16 ≡ b → (if b then m + 1 else 17) < 19
    pick true e = let h : m < 16 = ltb-true m 16 e in omega arith
    pick false e = let h : 17 < 19 = omega arith in h

add_one : (a b c : ℕ) → a ≡ 1 → b ≡ c → a + b ≡ suc c
add_one a b c e h = omega arith

pub below_all : (is : List Interval) → count_below is 19 ≡ length is
below_all [] = refl
below_all (i ∷ is) =
    add_one (one_if (nat_lt (slot_of i.verdict) 19)) (count_below is 19) (length is)
    (ap one_if (lt-ltb (slot_of i.verdict) 19 (slot_few i.verdict))) (below_all is)

pub ruleset kinds = (kinds_none, kinds_more)

pub ruleset stacks =
    (kinds_none, kinds_more, kinds_few, below_none, below_more, below_within, below_room)
