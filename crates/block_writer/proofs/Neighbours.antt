-- Keys that rise from each to the next rise strictly.
use Rattle.std.proofs.Common.{◌≡◌, ℕ, zero, suc, ◌+◌, ◌<◌, Bool, true, false, ◌&&◌, List, [], ◌∷◌}
use Rattle.std.proofs.Common.{length, drop, get_or, refl, sym, ap, subst, ◌∙◌, arith}
use Rattle.std.specs.Prelude.{T}
use Rattle.std.specs.List.{IsAllAdjacentAnswer}
use Rattle.std.specs.declared.cmp.Ordering.{Ordering}
use Rattle.std.specs.declared.cmp.Ordering.TheVariants.{Less, Equal, Greater}
use Rattle.std.specs.Ordering.{is_lt}
use Rattle.std.specs.Cmp.{IsTotalOrder}
use Rattle.std.specs.FinMap.Entries.{is_sorted, below_all}
use Rattle.std.proofs.Math.Seq.{drop-cons}
use Rattle.labels.proofs.Times.{both_T, first_T, second_T, T_of}

less_from : (o : Ordering) → T (is_lt o) → o ≡ Less
less_from Less h = refl
less_from Equal h = absurd h
less_from Greater h = absurd h

-- what is below a key is below those above it
below_more : {K X : Type 0} (R : K → K → Ordering) → IsTotalOrder R → (x y : K) (es : List (K × X))
    → T (is_lt (R x y)) → T (below_all R y es) → T (below_all R x es)
below_more R o x y [] lt below = tt
below_more R o x y (e ∷ es) lt below =
    let first : R y e.0 ≡ Less = less_from _ (first_T (is_lt (R y e.0)) (below_all R y es) below) in
    let here : R x e.0 ≡ Less = o.trans x y e.0 (less_from _ lt) first in
    both_T (is_lt (R x e.0)) (below_all R x es) (T_of _ (ap is_lt here))
    (below_more R o x y es lt (second_T (is_lt (R y e.0)) (below_all R y es) below))

same_T : (a b : Bool) → (T a → T b) → (T b → T a) → a ≡ b
same_T true true f g = refl
same_T true false f g = absurd (f tt)
same_T false true f g = absurd (g tt)
same_T false false f g = refl

-- whether keys rise strictly: the first is below the second, and those from the second on rise
pub is_sorted-two : {K X : Type 0} (R : K → K → Ordering) → IsTotalOrder R
    → (d e : K × X) (es : List (K × X))
    → is_sorted R (d ∷ e ∷ es) ≡ (is_lt (R d.0 e.0) && is_sorted R (e ∷ es))
is_sorted-two R o d e es =
    let lt = is_lt (R d.0 e.0) in
    let rest = is_sorted R (e ∷ es) in
    let under = below_all R d.0 es in
    same_T ((lt && under) && rest) (lt && rest)
    (λ h. both_T lt rest (first_T lt under (first_T (lt && under) rest h))
    (second_T (lt && under) rest h))
    (λ h. both_T (lt && under) rest (both_T lt under (first_T lt rest h) (below_more R o d.0 e.0 es
    (first_T lt rest h) (first_T (below_all R e.0 es) (is_sorted R es) (second_T lt rest h))))
    (second_T lt rest h))

one_at : {X : Type 0} (xs : List X) (i : ℕ) (d : X) → i < length xs
    → drop i xs ≡ get_or xs i d ∷ drop (i + 1) xs
one_at xs i d lt =
    let next : suc i ≡ i + 1 = omega arith in
    drop-cons xs i d lt ∙ ap (λ (n : ℕ). get_or xs i d ∷ drop n xs) next

-- the element that stands at a place, and those after it
pub from_read : {X : Type 0} (xs : List X) (i : ℕ) (x : X) → i < length xs → x ≡ get_or xs i x
    → drop i xs ≡ x ∷ drop (i + 1) xs
from_read {X} xs i x lt read = one_at xs i x lt ∙ ap (λ (y : X). y ∷ drop (i + 1) xs) (sym read)

-- keys rise where each is below the next
rising : {K X : Type 0} (R : K → K → Ordering) → IsTotalOrder R → (es : List (K × X))
    → ((k : ℕ) (d : K × X) → k + 1 < length es
    → true ≡ is_lt (R (get_or es k d).0 (get_or es (k + 1) d).0))
    → true ≡ is_sorted R es
rising R o [] h = refl
rising R o (d ∷ []) h = refl
rising {K} {X} R o (d ∷ e ∷ es) h =
    rising R o (e ∷ es) (λ k x l.
    let next : suc k + 1 ≡ suc (k + 1) = omega arith in
    subst (λ (n : ℕ). true ≡ is_lt (R (get_or (e ∷ es) k x).0 (get_or (d ∷ e ∷ es) n x).0)) next
    (h (suc k) x (omega (arith, l))))
    ∙ ap (λ (b : Bool). b && is_sorted R (e ∷ es)) (h 0 d (omega arith))
    ∙ sym (is_sorted-two R o d e es)

-- and do not where one is not
falling : {K X : Type 0} (R : K → K → Ordering) → IsTotalOrder R → (es : List (K × X)) (k : ℕ)
    → k + 1 < length es
    → ((d : K × X) → false ≡ is_lt (R (get_or es k d).0 (get_or es (k + 1) d).0))
    → false ≡ is_sorted R es
falling R o [] k lt h = absurd (omega (arith, lt))
falling R o (d ∷ []) k lt h = absurd (omega (arith, lt))
falling R o (d ∷ e ∷ es) zero lt h =
    ap (λ (b : Bool). b && is_sorted R (e ∷ es)) (h d) ∙ sym (is_sorted-two R o d e es)
falling {K} {X} R o (d ∷ e ∷ es) (suc k) lt h =
    let next : suc k + 1 ≡ suc (k + 1) = omega arith in
    let others : false ≡ is_sorted R (e ∷ es) =
    falling R o (e ∷ es) k (omega (arith, lt)) (λ x. subst (λ (n : ℕ). false
    ≡ is_lt (R (get_or (e ∷ es) k x).0 (get_or (d ∷ e ∷ es) n x).0)) next (h x)) in
    sym (and_false (is_lt (R d.0 e.0)))
    ∙ ap (λ (b : Bool). is_lt (R d.0 e.0) && b) others
    ∙ sym (is_sorted-two R o d e es)
  where
    and_false : (b : Bool) → (b && false) ≡ false
    and_false true = refl
    and_false false = refl

-- what comparing each key with the next tells
pub rise_from_pairs : {K X : Type 0} (R : K → K → Ordering) → IsTotalOrder R
    → (es : List (K × X)) (r : Bool)
    → IsAllAdjacentAnswer (λ x y b. b ≡ is_lt (R x.0 y.0)) es r → r ≡ is_sorted R es
rise_from_pairs R o es true each = rising R o es (λ k d l. each k d l)
rise_from_pairs R o es false other = falling R o es other.0 other.1 other.2
