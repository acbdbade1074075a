-- Keys that rise from each to the next rise strictly.
use Rattle.std.proofs.Common.{◌≡◌, ℕ, suc, ◌+◌, ◌-◌, ◌<◌, ◌≤◌, inl, inr, Bool, true, false, ◌&&◌, List, [], ◌∷◌, length, drop, get_or, refl, sym, ap, ◌∙◌, arith}
use Rattle.std.specs.Prelude.{T}
use Rattle.std.specs.declared.cmp.Ordering.{Ordering}
use Rattle.std.specs.declared.cmp.Ordering.TheVariants.{Less, Equal, Greater}
use Rattle.std.specs.Ordering.{is_lt}
use Rattle.std.specs.Cmp.{IsTotalOrder}
use Rattle.std.specs.FinMap.Entries.{is_sorted, below_all}
use Rattle.std.proofs.Math.Seq.{drop-cons}
use Rattle.std.proofs.lemmas.Bool.{cases_lt}
use Rattle.std.proofs.lemmas.List.{drop_all}
use Rattle.labels.proofs.Times.{both_T, first_T, second_T, T_of}

less_from : (o : Ordering) → T (is_lt o) → o ≡ Less
less_from Less h = refl
less_from Equal h = absurd h
less_from Greater h = absurd h

true_from : (b : Bool) → T b → b ≡ true
true_from true h = refl
true_from false h = absurd h

-- what is below a key is below those above it
below_more : {K X : Type 0} (R : K → K → Ordering) → IsTotalOrder R → (x y : K) (es : List (K × X))
    → T (is_lt (R x y)) → T (below_all R y es) → T (below_all R x es)
below_more R o x y [] lt below = tt
below_more R o x y (e ∷ es) lt below =
    let first : R y e.0 ≡ Less = less_from _ (first_T (is_lt (R y e.0)) (below_all R y es) below) in
    let here : R x e.0 ≡ Less = o.trans x y e.0 (less_from _ lt) first in
    both_T (is_lt (R x e.0)) (below_all R x es) (T_of _ (ap is_lt here))
    (below_more R o x y es lt (second_T (is_lt (R y e.0)) (below_all R y es) below))

same_T : (a b : Bool) → (T a → T b) → (T b → T a) → a ≡ b
same_T true true f g = refl
same_T true false f g = absurd (f tt)
same_T false true f g = absurd (g tt)
same_T false false f g = refl

-- whether keys rise strictly: the first is below the second, and those from the second on rise
pub is_sorted-two : {K X : Type 0} (R : K → K → Ordering) → IsTotalOrder R
    → (d e : K × X) (es : List (K × X))
    → is_sorted R (d ∷ e ∷ es) ≡ (is_lt (R d.0 e.0) && is_sorted R (e ∷ es))
is_sorted-two R o d e es =
    let lt = is_lt (R d.0 e.0) in
    let rest = is_sorted R (e ∷ es) in
    let under = below_all R d.0 es in
    same_T ((lt && under) && rest) (lt && rest)
    (λ h. both_T lt rest (first_T lt under (first_T (lt && under) rest h))
    (second_T (lt && under) rest h))
    (λ h. both_T (lt && under) rest (both_T lt under (first_T lt rest h) (below_more R o d.0 e.0 es
    (first_T lt rest h) (first_T (below_all R e.0 es) (is_sorted R es) (second_T lt rest h))))
    (second_T lt rest h))

one_at : {X : Type 0} (xs : List X) (i : ℕ) (d : X) → i < length xs
    → drop i xs ≡ get_or xs i d ∷ drop (i + 1) xs
one_at xs i d lt =
    let next : suc i ≡ i + 1 = omega arith in
    drop-cons xs i d lt ∙ ap (λ (n : ℕ). get_or xs i d ∷ drop n xs) next

-- the element that stands at a place, and those after it
pub from_read : {X : Type 0} (xs : List X) (i : ℕ) (x : X) → i < length xs → x ≡ get_or xs i x
    → drop i xs ≡ x ∷ drop (i + 1) xs
from_read {X} xs i x lt read = one_at xs i x lt ∙ ap (λ (y : X). y ∷ drop (i + 1) xs) (sym read)

-- from a place on, keys rise where the one there is below the next, and those from the next on rise
is_sorted-at : {K X : Type 0} (R : K → K → Ordering) → IsTotalOrder R
    → (es : List (K × X)) (i : ℕ) (x y : K × X) → 0 < i → i < length es
    → x ≡ get_or es (i - 1) x → y ≡ get_or es i y
    → is_sorted R (drop (i - 1) es) ≡ (is_lt (R x.0 y.0) && is_sorted R (drop i es))
is_sorted-at {K} {X} R o es i x y some lt first second =
    let back : i - 1 + 1 ≡ i = omega arith in
    let here : drop i es ≡ y ∷ drop (i + 1) es = from_read es i y lt second in
    ap (is_sorted R) (from_read es (i - 1) x (omega arith) first
    ∙ ap (λ (n : ℕ). x ∷ drop n es) back
    ∙ ap (λ (ys : List (K × X)). x ∷ ys) here)
    ∙ is_sorted-two R o x y (drop (i + 1) es)
    ∙ ap (λ (ys : List (K × X)). is_lt (R x.0 y.0) && is_sorted R ys) (sym here)

-- how a look at each and the next goes on, and where it stops
pub goes_on : {K X : Type 0} (R : K → K → Ordering) → IsTotalOrder R
    → (es : List (K × X)) (i : ℕ) (x y : K × X) (whole : Bool) → 0 < i → i < length es
    → x ≡ get_or es (i - 1) x → y ≡ get_or es i y
    → is_lt (R x.0 y.0) ≡ true → is_sorted R (drop (i - 1) es) ≡ whole
    → is_sorted R (drop (i + 1 - 1) es) ≡ whole
goes_on R o es i x y whole some lt first second less so_far =
    let same : i + 1 - 1 ≡ i = omega arith in
    ap (λ (n : ℕ). is_sorted R (drop n es)) same
    ∙ sym (is_sorted-at R o es i x y some lt first second
    ∙ ap (λ (b : Bool). b && is_sorted R (drop i es)) less)
    ∙ so_far

pub stops : {K X : Type 0} (R : K → K → Ordering) → IsTotalOrder R
    → (es : List (K × X)) (i : ℕ) (x y : K × X) (whole : Bool) → 0 < i → i < length es
    → x ≡ get_or es (i - 1) x → y ≡ get_or es i y
    → is_lt (R x.0 y.0) ≡ false → is_sorted R (drop (i - 1) es) ≡ whole → false ≡ whole
stops R o es i x y whole some lt first second less so_far =
    sym (is_sorted-at R o es i x y some lt first second
    ∙ ap (λ (b : Bool). b && is_sorted R (drop i es)) less)
    ∙ so_far

-- the last element alone rises
pub is_sorted-last : {K X : Type 0} (R : K → K → Ordering) (es : List (K × X)) (i : ℕ)
    → length es ≤ i → is_sorted R (drop (i - 1) es) ≡ true
is_sorted-last R [] i le = ap (is_sorted R) (drop_all (i - 1) [] (omega arith))
is_sorted-last {K} {X} R (e ∷ es) i le = elim (cases_lt (i - 1) (length (e ∷ es))) [
  | inl lt ↦
      ap (is_sorted R) (one_at (e ∷ es) (i - 1) e lt
      ∙ ap (λ (ys : List (K × X)). get_or (e ∷ es) (i - 1) e ∷ ys)
      (drop_all (i - 1 + 1) (e ∷ es) (omega arith)))
  | inr past ↦ ap (is_sorted R) (drop_all (i - 1) (e ∷ es) past)
]
