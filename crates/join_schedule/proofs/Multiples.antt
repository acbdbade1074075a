-- Multiples on a line of whole numbers, and the windows between them.
use Rattle.std.proofs.Common.{◌≡◌, ℕ, zero, suc, ◌+◌, ◌*◌, ◌/◌}
use Rattle.std.proofs.Common.{◌≤◌, ◌<◌, arith, ap, sym, subst, ◌∙◌}
use Rattle.std.specs.Prelude.{ℤ, pos, negsuc, ◌+ℤ◌, ◌-ℤ◌, ◌≤ℤ◌, ◌<ℤ◌, FitsSigned}
use Rattle.std.specs.Prelude.{Option, Some, None, IfSome, IfNone, SomeIff}
use Rattle.std.specs.Int.{int_rem_euclid, saturate_signed}
use mir.Syntax.{w64}
use Rattle.std.proofs.lemmas.Int.{ints}
use Rattle.std.proofs.lemmas.Nat.{div-add-mod'}
use Rattle.std.proofs.Math.Nat.{mod-lt}
use Rattle.join_schedule.specs.Windows.{IsMultiple}

-- of two multiples that are less than one apart, the first is not the larger
times_below : (e j k : ℕ) → j * e < k * e + e → j * e ≤ k * e
times_below e zero k lt = omega arith
times_below e (suc j) zero lt = absurd (omega (arith, lt))
times_below e (suc j) (suc k) lt = omega (arith, times_below e j k (omega (arith, lt)))

multiple_below : (e : ℕ) (t m : ℤ) → 0 < e → m ≡ t -ℤ int_rem_euclid t (pos e) → IsMultiple e m
multiple_below e (pos a) m some is = record {
  times = a / e;
  is = omega (arith, ints, is, div-add-mod' a e);
}
multiple_below e (negsuc a) m some is = record {
  times = a / e + 1;
  is = omega (arith, ints, is, div-add-mod' a e, mod-lt a some);
}

-- of two multiples of which the first lies before the next one, the first is not the larger
not_above : (e : ℕ) (u m : ℤ) → IsMultiple e u → IsMultiple e m → u <ℤ (m +ℤ pos e) → u ≤ℤ m
not_above e (pos n) (pos p) of_u of_m lt =
    omega (
      arith,
      ints,
      of_u.is,
      of_m.is,
      times_below e of_u.times of_m.times (omega (arith, ints, of_u.is, of_m.is, lt)),
    )
not_above e (negsuc n) (pos p) of_u of_m lt = omega (arith, ints)
not_above e (pos n) (negsuc p) of_u of_m lt =
    absurd (omega (
      arith,
      ints,
      of_m.is,
      times_below e of_m.times 0 (omega (arith, ints, of_u.is, of_m.is, lt)),
    ))
not_above e (negsuc n) (negsuc p) of_u of_m lt =
    omega (
      arith,
      ints,
      of_u.is,
      of_m.is,
      times_below e of_m.times of_u.times (omega (arith, ints, of_u.is, of_m.is, lt)),
    )

one_less : (e t a : ℕ) → suc a ≡ t * e → (k : ℕ) × (suc a ≡ k * e + e)
one_less e zero a is = absurd (omega (arith, is))
one_less e (suc k) a is = (k, omega (arith, is))

multiple_behind : (e : ℕ) (m n : ℤ) → IsMultiple e m → n ≡ m +ℤ pos e → IsMultiple e n
multiple_behind e (pos a) n of_m is = record {
  times = of_m.times + 1;
  is = omega (arith, ints, is, of_m.is);
}
multiple_behind e (negsuc a) n of_m is =
    let less = one_less e of_m.times a of_m.is in
    record { times = less.0; is = omega (arith, ints, is, less.1) }

pub rest_is : (e : ℕ) (t : ℤ) → 0 < e
    → (pos 0 ≤ℤ int_rem_euclid t (pos e)) × (int_rem_euclid t (pos e) <ℤ pos e)
rest_is e (pos a) some = (omega (arith, ints), omega (arith, ints, mod-lt a some))
rest_is e (negsuc a) some = (omega (arith, ints), omega (arith, ints, mod-lt a some))

-- what is left of a time above the multiple below it
pub rem_is : (e : ℕ) (t rem : ℤ) → 0 < e → rem ≡ int_rem_euclid t (pos e)
    → (pos 0 ≤ℤ rem) × (rem <ℤ pos e)
rem_is e t rem some is =
    let rest = rest_is e t some in
    (omega (arith, ints, is, rest.0), omega (arith, ints, is, rest.1))

-- the same of a time and a divisor as a program has them
pub rem_of : (rem z d t : ℤ) (e : ℕ) → rem ≡ int_rem_euclid z d → d ≡ pos e → z ≡ t
    → rem ≡ int_rem_euclid t (pos e)
rem_of rem z d t e is of_d of_z =
    is ∙ ap (λ (x : ℤ). int_rem_euclid z x) of_d ∙ ap (λ (x : ℤ). int_rem_euclid x (pos e)) of_z

-- the first multiple behind a time
pub next_multiple : (e : ℕ) (t n rem : ℤ) → 0 < e → rem ≡ int_rem_euclid t (pos e)
    → n ≡ t +ℤ (pos e -ℤ rem) → IsMultiple e n
next_multiple e t n rem some of_rem is =
    multiple_behind e (t -ℤ rem) n
    (multiple_below e t (t -ℤ rem) some (ap (λ (x : ℤ). t -ℤ x) of_rem)) (omega (arith, ints, is))

pub next_is_near : (e : ℕ) (t n rem : ℤ) → 0 < e → rem ≡ int_rem_euclid t (pos e)
    → n ≡ t +ℤ (pos e -ℤ rem) → (t <ℤ n) × (n ≤ℤ (t +ℤ pos e))
next_is_near e t n rem some of_rem is =
    let rest = rem_is e t rem some of_rem in
    (omega (arith, ints, is, rest.1), omega (arith, ints, is, rest.0))

-- a multiple behind a time is not before the first one
pub not_before_next : (e : ℕ) (t n m : ℤ) → IsMultiple e n → n ≤ℤ (t +ℤ pos e) → IsMultiple e m
    → t <ℤ m → n ≤ℤ m
not_before_next e t n m of_n near of_m behind =
    not_above e n m of_n of_m (omega (arith, ints, near, behind))

-- what is not before a difference that is cut off at the least time is not before the difference
pub not_cut_off : (z x : ℤ) → FitsSigned w64 x → z ≤ℤ pos 9223372036854775807
    → saturate_signed w64 z ≤ℤ x → z ≤ℤ x
not_cut_off (pos n) x fits top le = omega (arith, ints, top, le)
not_cut_off (negsuc n) x fits top le = omega (arith, ints, fits.sfits, le)

pub cut_off : (z x : ℤ) → FitsSigned w64 x → z ≤ℤ x → saturate_signed w64 z ≤ℤ x
cut_off (pos n) x fits le = omega (arith, ints, le)
cut_off (negsuc n) x fits le = omega (arith, ints, fits.sfits, le)

-- where a window begins, and a time that is not before it
pub not_before_start : (r z end x : ℤ) (span : ℕ) → r ≡ saturate_signed w64 z
    → z ≡ end -ℤ pos span → FitsSigned w64 end → FitsSigned w64 x → r ≤ℤ x
    → (end -ℤ pos span) ≤ℤ x
not_before_start r z end x span cut is fits_end fits le =
    let top : z ≤ℤ pos 9223372036854775807 = omega (arith, ints, is, fits_end.sfits) in
    let below : z ≤ℤ x =
    not_cut_off z x fits top (subst (λ (y : ℤ). y ≤ℤ x) cut le) in
    omega (arith, ints, is, below)

pub before_start : (r z end x : ℤ) (span : ℕ) → r ≡ saturate_signed w64 z
    → z ≡ end -ℤ pos span → FitsSigned w64 x → x <ℤ r → (end -ℤ pos span) ≤ℤ x → ⊥
before_start r z end x span cut is fits early begins =
    let below : saturate_signed w64 z ≤ℤ x = cut_off z x fits (omega (arith, ints, is, begins)) in
    let here : r ≤ℤ x = subst (λ (y : ℤ). y ≤ℤ x) (sym cut) below in
    omega (arith, ints, here, early)

pub fits_within : (t v e : ℤ) → FitsSigned w64 t → FitsSigned w64 e → t ≤ℤ v → v ≤ℤ e
    → FitsSigned w64 v
fits_within t (pos n) e fits_t fits_e behind before =
    record { sfits = omega (arith, ints, fits_e.sfits, before) }
fits_within t (negsuc n) e fits_t fits_e behind before =
    record { sfits = omega (arith, ints, fits_t.sfits, behind) }

pub fits_between : (t v e : ℤ) → FitsSigned w64 t → FitsSigned w64 e → t <ℤ v → v ≤ℤ e
    → FitsSigned w64 v
fits_between t v e fits_t fits_e behind before =
    fits_within t v e fits_t fits_e (omega (arith, ints, behind)) before

pub fits_above_zero : (z : ℤ) → pos 0 ≤ℤ z → z ≤ℤ pos 9223372036854775807 → FitsSigned w64 z
fits_above_zero (pos n) low high = record { sfits = omega (arith, ints, high) }
fits_above_zero (negsuc n) low high = absurd (omega (arith, ints, low))

pub some_is : (r : Option ℤ) (P : Type 0) (v : ℤ) (Q : ℤ → Type 0) → SomeIff r P v → Q v → IfSome r Q
some_is (Some x) P v Q h q = subst Q (sym h.1) q
some_is None P v Q h q = tt

pub none_is : (r : Option ℤ) (P : Type 0) (v : ℤ) (Q : Type 0) → SomeIff r P v → ((P → ⊥) → Q)
    → IfNone r Q
none_is (Some x) P v Q h f = tt
none_is None P v Q h f = f h

pub next_fits : (e : ℕ) (t n end rem : ℤ) → 0 < e → rem ≡ int_rem_euclid t (pos e)
    → n ≡ t +ℤ (pos e -ℤ rem) → IsMultiple e end → t <ℤ end → FitsSigned w64 t
    → FitsSigned w64 end → FitsSigned w64 n
next_fits e t n end rem some of_rem is multiple behind fits_t fits_end =
    let near = next_is_near e t n rem some of_rem is in
    fits_between t n end fits_t fits_end near.0
    (not_before_next e t n end (next_multiple e t n rem some of_rem is) near.1 multiple behind)
