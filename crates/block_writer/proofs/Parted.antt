-- Samples in order that are parted: what holds of the front and of what is behind it.
use Rattle.std.proofs.Common.{ℕ, zero, suc, ◌<◌, Bool, List, [], ◌∷◌, ◌++◌, length, get_or, arith}
use Rattle.std.specs.Prelude.{ℤ, T}
use Rattle.std.specs.List.{list_all, AllByRecursion}
use Rattle.std.specs.Ordering.{int_cmp}
use Rattle.std.specs.FinMap.Entries.{is_sorted, below_all}
use Rattle.labels.proofs.Times.{first_T, second_T, both_T}

below_front : (t : ℤ) (xs ys : List (ℤ × ℤ)) → T (below_all int_cmp t (xs ++ ys))
    → T (below_all int_cmp t xs)
below_front t [] ys h = tt
below_front t (x ∷ xs) ys h = both_T _ _ (first_T _ _ h) (below_front t xs ys (second_T _ _ h))

pub sorted_back : (xs ys : List (ℤ × ℤ)) → T (is_sorted int_cmp (xs ++ ys))
    → T (is_sorted int_cmp ys)
sorted_back [] ys h = h
sorted_back (x ∷ xs) ys h = sorted_back xs ys (second_T _ _ h)

pub sorted_front : (xs ys : List (ℤ × ℤ)) → T (is_sorted int_cmp (xs ++ ys))
    → T (is_sorted int_cmp xs)
sorted_front [] ys h = tt
sorted_front (x ∷ xs) ys h =
    both_T _ _ (below_front x.0 xs ys (first_T _ _ h)) (sorted_front xs ys (second_T _ _ h))

pub pass_back : {X : Type 0} (p : X → Bool) (xs ys : List X)
    → T (list_all p (xs ++ ys)) → T (list_all p ys)
pass_back p [] ys h = h
pass_back p (x ∷ xs) ys h = pass_back p xs ys (second_T _ _ h)

pub pass_front : {X : Type 0} (p : X → Bool) (xs ys : List X)
    → T (list_all p (xs ++ ys)) → T (list_all p xs)
pass_front p [] ys h = tt
pass_front p (x ∷ xs) ys h = both_T _ _ (first_T _ _ h) (pass_front p xs ys (second_T _ _ h))

pub each_back : {X : Type 0} (P : X → Type 0) (xs ys : List X) → AllByRecursion P (xs ++ ys)
    → AllByRecursion P ys
each_back P [] ys h = h
each_back P (x ∷ xs) ys h = each_back P xs ys h.1

pub each_front : {X : Type 0} (P : X → Type 0) (xs ys : List X) → AllByRecursion P (xs ++ ys)
    → AllByRecursion P xs
each_front P [] ys h = tt
each_front P (x ∷ xs) ys h = (h.0, each_front P xs ys h.1)

pub one_of : {X : Type 0} (P : X → Type 0) (xs : List X) (i : ℕ) (d : X) → i < length xs
    → AllByRecursion P xs → P (get_or xs i d)
one_of P [] i d lt h = absurd (omega (arith, lt))
one_of P (x ∷ xs) zero d lt h = h.0
one_of P (x ∷ xs) (suc i) d lt h = one_of P xs i d (omega (arith, lt)) h.1
