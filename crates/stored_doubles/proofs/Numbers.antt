-- Each number is stored for one double.
use Rattle.std.proofs.Common.{◌≡◌, ℕ, ◌^◌, ◌<◌, sym, ap, subst, ◌∙◌, inl, inr, arith, refl, ℤ, pos, negsuc, zero, suc, FitsSigned}
use Rattle.std.specs.Int.{w64, cast_signed, cast_unsigned}
use Rattle.stored_doubles.specs.Stored.{IsSmall, IsSmallWhole, IsSwapped, IsKept, IsStoredFor}
use Rattle.stored_doubles.proofs.Fields.{same_bits, only_zero, back, zero_number, small_back, small_fits, value_zero, same_value}
use Rattle.std.proofs.lemmas.Int.{to_z-of_z}

-- a small number whose pattern is a small whole number's is 0
pub both_small : (k v : ℤ) → IsSmall k → IsSmallWhole (cast_unsigned w64 k) v → k ≡ pos 0
both_small k v small x =
    let b = small_back k small in
    let s : IsSmall (cast_signed w64 (cast_unsigned w64 k)) = rw b small in
    zero_number k small (only_zero (cast_unsigned w64 k) v (small_fits k small) x s)

-- a number in range, from its pattern
pub pattern_fits : (z : ℤ) → FitsSigned w64 z → cast_unsigned w64 z < 2 ^ 64
pattern_fits (pos n) fits = omega arith
pattern_fits (negsuc n) fits = omega arith

-- two for one double are one
pub one_number : (p : ℕ) (y z : ℤ) → FitsSigned w64 y → FitsSigned w64 z → IsStoredFor p y → IsStoredFor p z → y ≡ z
one_number p y z a b (inl s) (inl t) = same_value p y z s t
one_number p y z a b (inl s) (inr (inl t)) = absurd (t.none y s)
one_number p y z a b (inl s) (inr (inr t)) = absurd (t.none y s)
one_number p y z a b (inr (inl s)) (inl t) = absurd (s.none z t)
one_number p y z a b (inr (inr s)) (inl t) = absurd (s.none z t)
one_number p y z a b (inr (inl s)) (inr (inl t)) =
    let e = same_bits (cast_unsigned w64 y) (cast_unsigned w64 z) (cast_signed w64 p) (pattern_fits y a) (pattern_fits z b) s.bits_of t.bits_of in
    sym (to_z-of_z w64 y a) ∙ ap (cast_signed w64) e ∙ to_z-of_z w64 z b
one_number p y z a b (inr (inl s)) (inr (inr t)) = absurd (t.large s.small)
one_number p y z a b (inr (inr s)) (inr (inl t)) = absurd (s.large t.small)
one_number p y z a b (inr (inr s)) (inr (inr t)) = s.same ∙ sym t.same

zero_is_small : IsSmallWhole 0 (pos 0)
zero_is_small = record {
  whole = record { finite = omega arith; size = 0; exact = refl; is = refl };
  small = omega arith;
  not_minus_zero = λ e. omega arith;
}

-- of a small number that is not 0 the pattern is no small whole number's
other_way : (p : ℕ) (z : ℤ) → p < 2 ^ 64 → (z ≡ pos 0 → ⊥) → IsSmallWhole p z
    → IsStoredFor (cast_unsigned w64 z) (cast_signed w64 p)
other_way p z few some x =
    let k = small_back z x.small in
    inr (inl (record {
      none = λ v y. some (both_small z v x.small y);
      small = rw k x.small;
      bits_of = rw (k, back p few) x;
    }))

small_other_way : (p : ℕ) (z : ℤ) → p < 2 ^ 64 → IsSmallWhole p z
    → IsStoredFor (cast_unsigned w64 z) (cast_signed w64 p)
small_other_way p (pos zero) few x =
    let e : p ≡ 0 = same_bits p 0 (pos 0) few (omega arith) x zero_is_small in
    inl (rw e zero_is_small)
small_other_way p (pos (suc n)) few x = other_way p (pos (suc n)) few (λ e. absurd cc) x
small_other_way p (negsuc n) few x = other_way p (negsuc n) few (λ e. absurd cc) x

-- the two have changed places
pub both_ways : (p : ℕ) (z : ℤ) → p < 2 ^ 64 → IsStoredFor p z
    → IsStoredFor (cast_unsigned w64 z) (cast_signed w64 p)
both_ways p z few (inl x) = small_other_way p z few x
both_ways p z few (inr (inl t)) = inl t.bits_of
both_ways p z few (inr (inr t)) =
    let same : cast_unsigned w64 z ≡ p = ap (cast_unsigned w64) t.same ∙ back p few in
    rw (same, ← t.same) (inr (inr t))

-- no small number is kept by a swap
none_swapped : (p : ℕ) (z : ℤ) → p < 2 ^ 64 → IsSmall z → IsSwapped p z → ⊥
none_swapped p z few small t =
    let e = both_small z (cast_signed w64 p) small t.bits_of in
    let zero : cast_unsigned w64 z ≡ 0 = ap (cast_unsigned w64) e in
    let w : IsSmallWhole 0 (cast_signed w64 p) = rw zero at t.bits_of in
    let k = value_zero (cast_signed w64 p) w in
    let same : p ≡ 0 = sym (back p few) ∙ ap (cast_unsigned w64) k in
    t.none (cast_signed w64 p) (subst (λ (q : ℕ). IsSmallWhole q (cast_signed w64 p)) (sym same) w)

-- nor as it stands, if it is another double's
none_kept : (q : ℕ) (z : ℤ) → IsSmall z → IsKept q z → ⊥
none_kept q z small t = t.large (rw (sym t.same) small)

kept_or_swapped : (p q : ℕ) (z : ℤ) → q < 2 ^ 64 → IsSwapped p z → IsKept q z → ⊥
kept_or_swapped p q z b s t =
    let e : cast_unsigned w64 z ≡ q = ap (cast_unsigned w64) t.same ∙ back q b in
    t.none (cast_signed w64 p) (rw e at s.bits_of)

same_pattern : (p q : ℕ) → p < 2 ^ 64 → q < 2 ^ 64 → cast_signed w64 p ≡ cast_signed w64 q → p ≡ q
same_pattern p q a b e = sym (back p a) ∙ ap (cast_unsigned w64) e ∙ back q b

-- a number is kept for one double
pub one_pattern : (p q : ℕ) (z : ℤ) → p < 2 ^ 64 → q < 2 ^ 64 → IsStoredFor p z → IsStoredFor q z
    → p ≡ q
one_pattern p q z a b (inl s) (inl t) = same_bits p q z a b s t
one_pattern p q z a b (inl s) (inr (inl t)) = absurd (none_swapped q z b s.small t)
one_pattern p q z a b (inl s) (inr (inr t)) = absurd (none_kept q z s.small t)
one_pattern p q z a b (inr (inl s)) (inl t) = absurd (none_swapped p z a t.small s)
one_pattern p q z a b (inr (inr s)) (inl t) = absurd (none_kept p z t.small s)
one_pattern p q z a b (inr (inl s)) (inr (inl t)) =
    same_pattern p q a b
    (same_value (cast_unsigned w64 z) (cast_signed w64 p) (cast_signed w64 q) s.bits_of t.bits_of)
one_pattern p q z a b (inr (inl s)) (inr (inr t)) = absurd (kept_or_swapped p q z b s t)
one_pattern p q z a b (inr (inr s)) (inr (inl t)) = absurd (kept_or_swapped q p z a t s)
one_pattern p q z a b (inr (inr s)) (inr (inr t)) = same_pattern p q a b (sym s.same ∙ t.same)
