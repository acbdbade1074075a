-- Multiples on a line of whole numbers.
use Rattle.std.proofs.Common.{◌≡◌, ◌⊎◌, inl, inr, ℕ, zero, suc, ◌+◌, ◌*◌, ◌/◌, ◌≤◌, ◌<◌, arith, subst, sym}
use Rattle.std.specs.Prelude.{ℤ, pos, negsuc, ◌+ℤ◌, ◌-ℤ◌, ◌≤ℤ◌, ◌<ℤ◌, Option, Some, None}
use Rattle.std.specs.Prelude.{IfSome, IfNone, SomeIff, FitsSigned}
use Rattle.std.specs.Int.{int_rem_euclid, saturate_signed}
use mir.Syntax.{w64}
use mir.Val.{to_z, of_z}
use Rattle.std.proofs.lemmas.Int.{ints, by_lt_z, to_z-of_z}
use Rattle.std.proofs.lemmas.Nat.{div-add-mod'}
use Rattle.std.proofs.Math.Nat.{mod-lt}
use Rattle.cut_schedule.specs.Due.{IsMultiple, IsDue, IsLastDue}

-- of two multiples that are less than one apart, the first is not the larger
times_below : (e j k : ℕ) → j * e < k * e + e → j * e ≤ k * e
times_below e zero k lt = omega arith
times_below e (suc j) zero lt = absurd (omega (arith, lt))
times_below e (suc j) (suc k) lt = omega (arith, times_below e j k (omega (arith, lt)))

pub multiple_below : (e : ℕ) (t m : ℤ) → 0 < e → m ≡ t -ℤ int_rem_euclid t (pos e) → IsMultiple e m
multiple_below e (pos a) m some is = record {
  times = a / e;
  is = omega (arith, ints, is, div-add-mod' a e);
}
multiple_below e (negsuc a) m some is = record {
  times = a / e + 1;
  is = omega (arith, ints, is, div-add-mod' a e, mod-lt a some);
}

-- of two multiples of which the first lies before the next one, the first is not the larger
pub not_above : (e : ℕ) (u m : ℤ) → IsMultiple e u → IsMultiple e m → u <ℤ (m +ℤ pos e) → u ≤ℤ m
not_above e (pos n) (pos p) of_u of_m lt =
    omega (
      arith,
      ints,
      of_u.is,
      of_m.is,
      times_below e of_u.times of_m.times (omega (arith, ints, of_u.is, of_m.is, lt)),
    )
not_above e (negsuc n) (pos p) of_u of_m lt = omega (arith, ints)
not_above e (pos n) (negsuc p) of_u of_m lt =
    absurd (omega (
      arith,
      ints,
      of_m.is,
      times_below e of_m.times 0 (omega (arith, ints, of_u.is, of_m.is, lt)),
    ))
not_above e (negsuc n) (negsuc p) of_u of_m lt =
    omega (
      arith,
      ints,
      of_u.is,
      of_m.is,
      times_below e of_m.times of_u.times (omega (arith, ints, of_u.is, of_m.is, lt)),
    )

pub some_is : (r : Option ℤ) (P : Type 0) (v : ℤ) (Q : ℤ → Type 0) → SomeIff r P v → Q v → IfSome r Q
some_is (Some x) P v Q h q = subst Q (sym h.1) q
some_is None P v Q h q = tt

-- what has no room below a time lies below all that has
too_low : (m time : ℤ) → m ≤ℤ time → FitsSigned w64 time → (FitsSigned w64 m → ⊥)
    → m <ℤ negsuc 9223372036854775807
too_low (pos n) (pos a) le fits none =
    absurd (none (record { sfits = omega (arith, ints, le, fits.sfits) }))
too_low (pos n) (negsuc a) le fits none = absurd (omega (arith, ints, le))
too_low (negsuc n) time le fits none =
    by_lt_z (negsuc n) (negsuc 9223372036854775807) (λ lt. lt) (λ ge.
    absurd (none (record { sfits = omega (arith, ints, ge) })))

rest_is : (e : ℕ) (t : ℤ) → 0 < e
    → (pos 0 ≤ℤ int_rem_euclid t (pos e)) × (int_rem_euclid t (pos e) <ℤ pos e)
rest_is e (pos a) some = (omega (arith, ints), omega (arith, ints, mod-lt a some))
rest_is e (negsuc a) some = (omega (arith, ints), omega (arith, ints, mod-lt a some))

pub none_fits : (r : Option ℤ) (e : ℕ) (time m : ℤ) → 0 < e → m ≡ time -ℤ int_rem_euclid time (pos e)
    → FitsSigned w64 time → SomeIff r (FitsSigned w64 m) m
    → IfNone r ((t : ℤ) → IsMultiple e t → t ≤ℤ time → t <ℤ negsuc 9223372036854775807)
none_fits (Some x) e time m some is fits h = tt
none_fits None e time m some is fits h = λ t multiple le.
    omega (
      arith,
      ints,
      too_low m time (omega (arith, ints, is, (rest_is e time some).0)) fits h,
      not_above e t m multiple (multiple_below e time m some is)
          (omega (arith, ints, is, le, (rest_is e time some).1)),
    )

-- the earlier of two times
abbrev pub IsEarlier : ℤ → ℤ → ℤ → Type 0
IsEarlier first one other = ((first ≡ one) × (one ≤ℤ other)) ⊎ ((first ≡ other) × (other ≤ℤ one))

-- the same of times as a program has them
pub as_given : (first one other : ℤ) → FitsSigned w64 one → FitsSigned w64 other
    → IsEarlier first (to_z w64 (of_z w64 one)) (to_z w64 (of_z w64 other))
    → IsEarlier first one other
as_given first one other a b h =
    subst (λ (x : ℤ). IsEarlier first x other) (to_z-of_z w64 one a)
    (subst (λ (y : ℤ). IsEarlier first (to_z w64 (of_z w64 one)) y) (to_z-of_z w64 other b) h)

pub not_later : (first one other t : ℤ) → IsEarlier first one other → t ≤ℤ one → t ≤ℤ other
    → t ≤ℤ first
not_later first one other t (inl h) a b = rw h.0 a
not_later first one other t (inr h) a b = rw h.0 b

pub before_both : (first one other t : ℤ) → IsEarlier first one other → t ≤ℤ first
    → (t ≤ℤ one) × (t ≤ℤ other)
before_both first one other t (inl h) a =
    (omega (arith, ints, h.0, a), omega (arith, ints, h.0, h.1, a))
before_both first one other t (inr h) a =
    (omega (arith, ints, h.0, h.1, a), omega (arith, ints, h.0, a))

pub last_due : (e a : ℕ) (newest now floor first latest time : ℤ) → 0 < e
    → IsEarlier first newest now → IsMultiple e time
    → (time ≤ℤ latest) × (latest <ℤ (time +ℤ pos e)) → latest ≡ first -ℤ pos a
    → floor <ℤ time → IsLastDue e a newest now floor time
last_due e a newest now floor first latest time some earlier multiple near is above =
    let both : ((time +ℤ pos a) ≤ℤ newest) × ((time +ℤ pos a) ≤ℤ now) =
    before_both first newest now (time +ℤ pos a) earlier (omega (arith, ints, near.0, is)) in
    record {
      is_due = record { multiple = multiple; above = above; sampled = both.0; passed = both.1 };
      last = λ t d. not_above e t time d.multiple multiple (omega (
        arith,
        ints,
        near.1,
        is,
        not_later first newest now (t +ℤ pos a) earlier d.sampled d.passed,
      ));
    }

pub none_above : (e a : ℕ) (newest now floor first latest time : ℤ) → 0 < e
    → IsEarlier first newest now → IsMultiple e time
    → (time ≤ℤ latest) × (latest <ℤ (time +ℤ pos e)) → latest ≡ first -ℤ pos a
    → time ≤ℤ floor → (t : ℤ) → IsDue e a newest now floor t → ⊥
none_above e a newest now floor first latest time some earlier multiple near is low t d =
    omega (
      arith,
      ints,
      d.above,
      low,
      not_above e t time d.multiple multiple (omega (
        arith,
        ints,
        near.1,
        is,
        not_later first newest now (t +ℤ pos a) earlier d.sampled d.passed,
      )),
    )

pub none_yet : (e a : ℕ) (newest now floor first time : ℤ) → 0 < e → IsMultiple e time
    → (time ≤ℤ floor) × (floor <ℤ (time +ℤ pos e)) → first ≤ℤ (time +ℤ pos e +ℤ pos a)
    → newest <ℤ first → (t : ℤ) → IsDue e a newest now floor t → ⊥
none_yet e a newest now floor first time some multiple near is early t d =
    omega (
      arith,
      ints,
      d.above,
      near.0,
      not_above e t time d.multiple multiple (omega (arith, ints, is, early, d.sampled)),
    )

not_more : (z : ℤ) → negsuc 9223372036854775807 ≤ℤ z → saturate_signed w64 z ≤ℤ z
not_more (pos n) low = omega (arith, ints)
not_more (negsuc n) low = omega (arith, ints, low)

-- a sum of which no more is kept than there is room for is not larger than the sum
pub at_most : (r z x : ℤ) → r ≡ saturate_signed w64 z → z ≡ x → negsuc 9223372036854775807 ≤ℤ x
    → r ≤ℤ x
at_most r z x is same low =
    subst (λ (y : ℤ). y ≤ℤ x) (sym is)
    (subst (λ (y : ℤ). saturate_signed w64 z ≤ℤ y) same (not_more z (subst (λ (y : ℤ).
    negsuc 9223372036854775807 ≤ℤ y) (sym same) low)))
