-- Whether ascending samples have one in a range.
use Rattle.std.proofs.Common.{◌≡◌, ℕ, zero, suc, ◌<◌, ℤ, Bool, true, false, not, ◌&&◌, ◌||◌, List, [], ◌∷◌, length, get_or, refl, sym, ap, ◌∙◌, arith}
use Rattle.std.specs.Prelude.{T, int_lt, pos, negsuc, nat_le, nat_lt}
use Rattle.std.specs.Int.Signed.{le_z, lt_z}
use Rattle.std.specs.List.Sorted.{IsPartitionedBy}
use Rattle.std.specs.Ordering.{int_cmp, is_lt}
use Rattle.std.specs.declared.cmp.Ordering.{Ordering}
use Rattle.std.specs.declared.cmp.Ordering.TheVariants.{Less, Equal, Greater}
use Rattle.std.specs.FinMap.Entries.{is_sorted, below_all}
use Rattle.std.proofs.lemmas.Cmp.{int_cmp_total}
use Rattle.std.proofs.lemmas.Bool.Decides.{nat_tests}
use Rattle.labels.specs.Parts.{has_sample}
use Rattle.labels.proofs.Times.{first_T, second_T, less_of, lt_of}

test_turn : (a b : ℕ) → nat_le a b ≡ not (nat_lt b a)
test_turn a b = grind (arith, nat_tests)

pub le_is : (x y : ℤ) → le_z x y ≡ not (int_lt y x)
le_is (pos a) (pos b) = test_turn a b
le_is (pos a) (negsuc b) = refl
le_is (negsuc a) (pos b) = refl
le_is (negsuc a) (negsuc b) = test_turn b a

pub less_is : (o : Ordering) → T (is_lt o) → o ≡ Less
less_is Less t = refl
less_is Equal t = absurd t
less_is Greater t = absurd t

pub lt_trans : (x y z : ℤ) → int_lt x y ≡ true → int_cmp y z ≡ Less → int_lt x z ≡ true
lt_trans x y z e l = lt_of x z (int_cmp_total.trans x y z (less_of x y e) l)

-- none is in a range that ends before the first
pub none_after : (a b t : ℤ) (ss : List (ℤ × ℤ)) → int_lt b t ≡ true → T (below_all int_cmp t ss) → has_sample a b ss ≡ false
none_after a b t [] e h = refl
none_after a b t (s ∷ ss) e h =
    let over : int_lt b s.0 ≡ true = lt_trans b t s.0 e (less_is (int_cmp t s.0) (first_T _ _ h)) in
    ap (λ c. (not (int_lt s.0 a) && not c) || has_sample a b ss) over
    ∙ out (not (int_lt s.0 a))
    ∙ none_after a b t ss e (second_T _ _ h)
  where
    out : (c : Bool) → ((c && false) || has_sample a b ss) ≡ has_sample a b ss
    out true = refl
    out false = refl

-- the first that is not before the range decides
pub sampled : (a b : ℤ) (ss : List (ℤ × ℤ)) (i : ℕ) (d : ℤ × ℤ) → T (is_sorted int_cmp ss) → i < length ss
    → ((k : ℕ) (e : ℤ × ℤ) → k < i → int_lt (get_or ss k e).0 a ≡ true) → int_lt (get_or ss i d).0 a ≡ false → not (int_lt b (get_or ss i d).0) ≡ has_sample a b ss
sampled a b [] i d h l before here = absurd (omega (arith, l))
sampled a b (s ∷ ss) zero d h l before here =
    go (int_lt b s.0) refl ∙ sym (ap (λ c. (not c && not (int_lt b s.0)) || has_sample a b ss) here)
  where
    go : (c : Bool) → int_lt b s.0 ≡ c → not c ≡ ((not false && not c) || has_sample a b ss)
    go true e = sym (none_after a b s.0 ss e (first_T _ _ h))
    go false e = refl
sampled a b (s ∷ ss) (suc i) d h l before here =
    sampled a b ss i d (second_T _ _ h) (omega (arith, l)) (λ k e m. before (suc k) e (omega (arith, m))) here
    ∙ sym (ap (λ c. (not c && not (int_lt b s.0)) || has_sample a b ss) (before zero s (omega arith)))

pub sampled_none : (a b : ℤ) (ss : List (ℤ × ℤ)) → ((k : ℕ) (e : ℤ × ℤ) → k < length ss → int_lt (get_or ss k e).0 a ≡ true) → has_sample a b ss ≡ false
sampled_none a b [] before = refl
sampled_none a b (s ∷ ss) before =
    ap (λ c. (not c && not (int_lt b s.0)) || has_sample a b ss) (before zero s (omega arith))
    ∙ sampled_none a b ss (λ k e m. before (suc k) e (omega (arith, m)))

pub below_at : (t : ℤ) (ss : List (ℤ × ℤ)) → T (below_all int_cmp t ss) → (k : ℕ) (d : ℤ × ℤ) → k < length ss → int_cmp t (get_or ss k d).0 ≡ Less
below_at t [] h k d l = absurd (omega (arith, l))
below_at t (s ∷ ss) h zero d l = less_is (int_cmp t s.0) (first_T _ _ h)
below_at t (s ∷ ss) h (suc k) d l = below_at t ss (second_T _ _ h) k d (omega (arith, l))

pub lt_before : (x y z : ℤ) → int_cmp x y ≡ Less → int_lt y z ≡ true → int_lt x z ≡ true
lt_before x y z l e = lt_of x z (int_cmp_total.trans x y z l (less_of y z e))

-- what lies before a time stands first
pub times_parted : (a : ℤ) (ss : List (ℤ × ℤ)) → T (is_sorted int_cmp ss) → IsPartitionedBy (λ s. int_lt s.0 a) ss
times_parted a [] h i j d le l t = absurd (omega (arith, l))
times_parted a (s ∷ ss) h zero zero d le l t = t
times_parted a (s ∷ ss) h (suc i) zero d le l t = absurd (omega (arith, le))
times_parted a (s ∷ ss) h zero (suc j) d le l t = lt_before s.0 (get_or ss j d).0 a (below_at s.0 ss (first_T _ _ h) j d (omega (arith, l))) t
times_parted a (s ∷ ss) h (suc i) (suc j) d le l t = times_parted a ss (second_T _ _ h) i j d (omega (arith, le)) (omega (arith, l)) t
