-- lemmas on ascending lists, and on what a filter keeps
use Rattle.std.proofs.Common.{◌≡◌, ℕ, zero, suc, ◌+◌, ◌<◌, ◌≤◌, Bool, true, false, cond, ◌&&◌, ◌⊎◌, inl, inr, List, [], ◌∷◌, ◌++◌, length, max, drop, take, ◌-◌, refl, sym, ◌∙◌, ap, subst, get_or, arith}
use Rattle.std.specs.List.{filter, Contains}
use Rattle.std.specs.List.Sorted.{IsStrictlyIncreasing}
use Rattle.std.specs.Prelude.{nat_le, nat_lt, Some, slice_get}
use Rattle.labels.specs.Ascending.{first_of, rest_of, not_below, first_or_end, or_end}
use Rattle.std.proofs.lemmas.Bool.{leb-true}
use Rattle.std.proofs.lemmas.Bool.Decides.{nat_tests}
use Rattle.std.proofs.lemmas.Grind.{common_steps}
use Rattle.std.proofs.lemmas.List.Kept.{IsStrictlyIncreasing-filter}

pub here : {X : Type 0} (x : X) (xs : List X) → Contains (x ∷ xs) x
here x xs = (0, omega arith, refl)

pub there : {X : Type 0} (x y : X) (xs : List X) → Contains xs y → Contains (x ∷ xs) y
there x y xs h = (suc h.0, omega (arith, h.1), h.2)

pub Contains-cases : {X : Type 0} (x : X) (xs : List X) (y : X) → Contains (x ∷ xs) y → (x ≡ y) ⊎ Contains xs y
Contains-cases x xs y (zero, l, e) = inl e
Contains-cases x xs y (suc k, l, e) = inr (k, omega (arith, l), e)

pub none_in_nil : {X : Type 0} (y : X) → Contains [] y → ⊥
none_in_nil y h = omega (arith, h.1)

pub first_in : (xs : List ℕ) (r : ℕ) → first_of xs ≡ Some r → Contains xs r
first_in [] r h = absurd cc
first_in (x ∷ xs) r h = let same : x ≡ r = cc in subst (λ (z : ℕ). Contains (x ∷ xs) z) same (here x xs)

-- the same with `suc`, at which `get_or` computes
step-suc : (xs : List ℕ) → IsStrictlyIncreasing xs → (k : ℕ) → suc k < length xs → get_or xs k 0 < get_or xs (suc k) 0
step-suc xs h k l = let e : k + 1 ≡ suc k = omega arith in subst (λ (n : ℕ). get_or xs k 0 < get_or xs n 0) e (h k (omega (arith, l)))

from_step-suc : (xs : List ℕ) → ((k : ℕ) → suc k < length xs → get_or xs k 0 < get_or xs (suc k) 0) → IsStrictlyIncreasing xs
from_step-suc xs h = λ k l. let e : suc k ≡ k + 1 = omega arith in subst (λ (n : ℕ). get_or xs k 0 < get_or xs n 0) e (h k (omega (arith, l)))

-- the tail of an ascending list, and its head against each of the rest
pub rising-tail : (x : ℕ) (xs : List ℕ) → IsStrictlyIncreasing (x ∷ xs) → IsStrictlyIncreasing xs
rising-tail x xs h = from_step-suc xs (λ k l. step-suc (x ∷ xs) h (suc k) (omega (arith, l)))

pub rising-head : (x : ℕ) (xs : List ℕ) → IsStrictlyIncreasing (x ∷ xs) → (y : ℕ) → Contains xs y → x < y
rising-head x [] h y c = absurd (none_in_nil y c)
rising-head x (z ∷ zs) h y c =
    let xz : x < z = h 0 (omega arith) in
    elim (Contains-cases z zs y c) [
      | inl e ↦ rw (← e) xz
      | inr d ↦ let zy : z < y = rising-head z zs (rising-tail x (z ∷ zs) h) y d in omega arith
    ]

rising-cons-at : (x : ℕ) (xs : List ℕ) → ((y : ℕ) → Contains xs y → x < y) → IsStrictlyIncreasing xs → (k : ℕ) → suc k < length (x ∷ xs) → get_or (x ∷ xs) k 0 < get_or (x ∷ xs) (suc k) 0
rising-cons-at x [] below rising k l = absurd (omega (arith, l))
rising-cons-at x (z ∷ zs) below rising zero l = below z (here z zs)
rising-cons-at x (z ∷ zs) below rising (suc k) l = step-suc (z ∷ zs) rising k (omega (arith, l))

pub rising-cons : (x : ℕ) (xs : List ℕ) → ((y : ℕ) → Contains xs y → x < y) → IsStrictlyIncreasing xs → IsStrictlyIncreasing (x ∷ xs)
rising-cons x xs below rising = from_step-suc (x ∷ xs) (rising-cons-at x xs below rising)

-- what a filter keeps
pub filter-has : {X : Type 0} (p : X → Bool) (xs : List X) (y : X) → Contains xs y → p y ≡ true → Contains (filter p xs) y
filter-has p [] y h t = absurd (none_in_nil y h)
filter-has {X} p (x ∷ xs) y h t =
    let go : (b : Bool) → p x ≡ b → Contains (cond b (x ∷ filter p xs) (filter p xs)) y = λ b. elim b as (λ v. p x ≡ v → Contains (cond v (x ∷ filter p xs) (filter p xs)) y) [
      | true ↦ λ e. elim (Contains-cases x xs y h) [
        | inl same ↦ rw (← same) (here x (filter p xs))
        | inr rest ↦ there x y (filter p xs) (filter-has p xs y rest t)
      ]
      | false ↦ λ e. elim (Contains-cases x xs y h) [
        | inl same ↦ cc
        | inr rest ↦ filter-has p xs y rest t
      ]
    ] in
    go (p x) refl

pub filter-from : {X : Type 0} (p : X → Bool) (xs : List X) (y : X) → Contains (filter p xs) y → Contains xs y × (p y ≡ true)
filter-from p [] y h = absurd (none_in_nil y h)
filter-from {X} p (x ∷ xs) y h =
    let go : (b : Bool) → p x ≡ b → Contains (cond b (x ∷ filter p xs) (filter p xs)) y → Contains (x ∷ xs) y × (p y ≡ true) = λ b. elim b as (λ v. p x ≡ v → Contains (cond v (x ∷ filter p xs) (filter p xs)) y → Contains (x ∷ xs) y × (p y ≡ true)) [
      | true ↦ λ e c. elim (Contains-cases x (filter p xs) y c) [
        | inl same ↦ (rw (← same) (here x xs), rw (← same) e)
        | inr rest ↦ (let r : Contains xs y × (p y ≡ true) = filter-from p xs y rest in (there x y xs r.0, r.1))
      ]
      | false ↦ λ e c. let r : Contains xs y × (p y ≡ true) = filter-from p xs y c in (there x y xs r.0, r.1)
    ] in
    go (p x) refl h

-- two tests that agree on the members keep the same
pub filter-same : {X : Type 0} (p q : X → Bool) (xs : List X) → ((x : X) → Contains xs x → p x ≡ q x) → filter p xs ≡ filter q xs
filter-same p q [] h = refl
filter-same p q (x ∷ xs) h =
    let e : p x ≡ q x = h x (here x xs) in
    let r : filter p xs ≡ filter q xs = filter-same p q xs (λ y c. h y (there x y xs c)) in
    rw (e, r)

pub filter-none : {X : Type 0} (p : X → Bool) (xs : List X) → ((x : X) → Contains xs x → p x ≡ false) → filter p xs ≡ []
filter-none p [] h = refl
filter-none p (x ∷ xs) h =
    let e : p x ≡ false = h x (here x xs) in
    let r : filter p xs ≡ [] = filter-none p xs (λ y c. h y (there x y xs c)) in
    rw (e, r)

pub filter-all : {X : Type 0} (p : X → Bool) (xs : List X) → ((x : X) → Contains xs x → p x ≡ true) → filter p xs ≡ xs
filter-all p [] h = refl
filter-all p (x ∷ xs) h =
    let e : p x ≡ true = h x (here x xs) in
    let r : filter p xs ≡ xs = filter-all p xs (λ y c. h y (there x y xs c)) in
    rw (e, r)

-- a filter of a filter
cond-filter : {X : Type 0} (a b : Bool) (p : X → Bool) (x : X) (ys zs : List X) → a ≡ p x → filter p ys ≡ zs →
    filter p (cond b (x ∷ ys) ys) ≡ cond (a && b) (x ∷ zs) zs
cond-filter true true p x ys zs e h = rw (← e, h)
cond-filter false true p x ys zs e h = rw (← e, h)
cond-filter true false p x ys zs e h = h
cond-filter false false p x ys zs e h = h

pub filter-filter : {X : Type 0} (p q : X → Bool) (xs : List X) → filter p (filter q xs) ≡ filter (λ x. p x && q x) xs
filter-filter p q [] = refl
filter-filter {X} p q (x ∷ xs) =
    let r : filter p (filter q xs) ≡ filter (λ (y : X). p y && q y) xs = filter-filter p q xs in
    cond-filter (p x) (q x) p x (filter q xs) (filter (λ (y : X). p y && q y) xs) refl r

-- two seeks leave what one seek to the greater target leaves
pub not_below-twice : (a b : ℕ) (xs : List ℕ) → not_below b (not_below a xs) ≡ not_below (max a b) xs
not_below-twice a b xs =
    filter-filter (λ r. nat_le b r) (λ r. nat_le a r) xs
    ∙ filter-same (λ r. nat_le b r && nat_le a r) (λ r. nat_le (max a b) r) xs (λ r _. grind (arith, nat_tests))

pub below_or_not : (x b : ℕ) → (x < b) ⊎ (b ≤ x)
below_or_not x b = grind arith

-- an ascending list is what is below a bound and then what is not
pub filter-split : (xs : List ℕ) (b c : ℕ) → IsStrictlyIncreasing xs → b ≤ c →
    filter (λ r. nat_lt r b) xs ++ filter (λ r. nat_le b r && nat_lt r c) xs ≡ filter (λ r. nat_lt r c) xs
filter-split [] b c h l = refl
filter-split (x ∷ xs) b c h l =
    let tail : filter (λ r. nat_lt r b) xs ++ filter (λ r. nat_le b r && nat_lt r c) xs ≡ filter (λ r. nat_lt r c) xs =
    filter-split xs b c (rising-tail x xs h) l in
    elim (below_or_not x b) [
      | inl below ↦
          let e1 : nat_lt x b ≡ true = grind (arith, nat_tests) in
          let e2 : (nat_le b x && nat_lt x c) ≡ false = grind (arith, nat_tests) in
          let e3 : nat_lt x c ≡ true = grind (arith, nat_tests) in
          rw (e1, e2, e3, tail)
      | inr above ↦
          let none : filter (λ r. nat_lt r b) (x ∷ xs) ≡ [] = filter-none (λ r. nat_lt r b) (x ∷ xs) (λ r d.
          elim (Contains-cases x xs r d) [
            | inl e ↦ grind (arith, nat_tests)
            | inr d ↦ let lt : x < r = rising-head x xs h r d in grind (arith, nat_tests)
          ]) in
          let same : filter (λ r. nat_le b r && nat_lt r c) (x ∷ xs) ≡ filter (λ r. nat_lt r c) (x ∷ xs) = filter-same (λ r. nat_le b r && nat_lt r c) (λ r. nat_lt r c) (x ∷ xs) (λ r d.
          elim (Contains-cases x xs r d) [
            | inl e ↦ grind (arith, nat_tests)
            | inr d ↦ let lt : x < r = rising-head x xs h r d in grind (arith, nat_tests)
          ]) in
          ap (λ ys. ys ++ filter (λ r. nat_le b r && nat_lt r c) (x ∷ xs)) none ∙ same
    ]

-- what a seek leaves begins with the target, where that is in the list
pub not_below-here : (xs : List ℕ) (r : ℕ) → IsStrictlyIncreasing xs → Contains xs r → first_of (not_below r xs) ≡ Some r
not_below-here [] r h c = absurd (none_in_nil r c)
not_below-here (x ∷ xs) r h c =
    elim (Contains-cases x xs r c) [
      | inl e ↦ let t : nat_le r x ≡ true = grind (arith, nat_tests) in rw (t, e)
      | inr d ↦
          let lt : x < r = rising-head x xs h r d in
          let t : nat_le r x ≡ false = grind (arith, nat_tests) in
          let ih : first_of (not_below r xs) ≡ Some r = not_below-here xs r (rising-tail x xs h) d in
          rw (t, ih)
    ]

-- where the first n are below the target and the next is not, the rest is what is not below it
pub drop-not_below : (xs : List ℕ) (t n : ℕ) → IsStrictlyIncreasing xs → n ≤ length xs
    → ((k : ℕ) → k < n → get_or xs k 0 < t) → (n < length xs → t ≤ get_or xs n 0) → drop n xs ≡ not_below t xs
drop-not_below [] t zero rising within below above = refl
drop-not_below [] t (suc n) rising within below above = absurd (omega (arith, within))
drop-not_below (x ∷ xs) t zero rising within below above =
    let first : t ≤ x = above (omega arith) in
    sym (filter-all (λ r. nat_le t r) (x ∷ xs) (λ r d. elim (Contains-cases x xs r d) [
      | inl e ↦ grind (arith, nat_tests)
      | inr d ↦ let lt : x < r = rising-head x xs rising r d in grind (arith, nat_tests)
    ]))
drop-not_below (x ∷ xs) t (suc n) rising within below above =
    let first : x < t = below zero (omega arith) in
    let test : nat_le t x ≡ false = grind (arith, nat_tests) in
    let ih : drop n xs ≡ not_below t xs = drop-not_below xs t n (rising-tail x xs rising) (omega (arith, within))
    (λ k l. below (suc k) (omega (arith, l))) (λ l. above (omega (arith, l))) in
    rw (test, ih)

pub first-drop : (xs : List ℕ) → first_of xs ≡ slice_get xs 0
first-drop [] = refl
first-drop (x ∷ xs) = refl

pub rest-drop : (xs : List ℕ) → rest_of xs ≡ drop 1 xs
rest-drop [] = refl
rest-drop (x ∷ xs) = refl

pub rising-rest : (xs : List ℕ) → IsStrictlyIncreasing xs → IsStrictlyIncreasing (rest_of xs)
rising-rest [] h = h
rising-rest (x ∷ xs) h = rising-tail x xs h

pub rising-drop : (xs : List ℕ) (i : ℕ) → IsStrictlyIncreasing xs → IsStrictlyIncreasing (drop i xs)
rising-drop xs zero h = h
rising-drop [] (suc i) h = h
rising-drop (x ∷ xs) (suc i) h = rising-drop xs i (rising-tail x xs h)

-- a slice from n on, as the code's range computes it
pub tail_range : (xs : List ℕ) (n : ℕ) → take (length xs - n) (drop n xs) ≡ drop n xs
tail_range xs n = grind (arith, common_steps)

pub rising-filter : (p : ℕ → Bool) (xs : List ℕ) → IsStrictlyIncreasing xs → IsStrictlyIncreasing (filter p xs)
rising-filter p xs h = IsStrictlyIncreasing-filter p xs h

pub or_end-first : (xs : List ℕ) → or_end (first_of xs) ≡ first_or_end xs
or_end-first [] = refl
or_end-first (x ∷ xs) = refl

-- what begins the rest is not above any member of the rest
pub first-least : (xs : List ℕ) (r : ℕ) → IsStrictlyIncreasing xs → Contains xs r → first_or_end xs ≤ r
first-least [] r h c = absurd (none_in_nil r c)
first-least (x ∷ xs) r h c =
    elim (Contains-cases x xs r c) [
      | inl e ↦ omega arith
      | inr d ↦ let lt : x < r = rising-head x xs h r d in omega arith
    ]

pub first-in : (xs : List ℕ) → first_or_end xs < 4294967296 → Contains xs (first_or_end xs)
first-in [] h = absurd (omega arith)
first-in (x ∷ xs) h = here x xs

pub first-not_below-least : (xs : List ℕ) (e r : ℕ) → IsStrictlyIncreasing xs → Contains xs r → e ≤ r → first_or_end (not_below e xs) ≤ r
first-not_below-least xs e r h c l =
    first-least (not_below e xs) r (rising-filter (λ x. nat_le e x) xs h) (filter-has (λ x. nat_le e x) xs r c (grind (arith, nat_tests)))

pub first-not_below-in : (xs : List ℕ) (e : ℕ) → first_or_end (not_below e xs) < 4294967296 → Contains xs (first_or_end (not_below e xs)) × (e ≤ first_or_end (not_below e xs))
first-not_below-in xs e h =
    let k : Contains xs (first_or_end (not_below e xs)) × (nat_le e (first_or_end (not_below e xs)) ≡ true) =
    filter-from (λ x. nat_le e x) xs (first_or_end (not_below e xs)) (first-in (not_below e xs) h) in
    (k.0, leb-true e (first_or_end (not_below e xs)) k.1)

-- the last member below a bound, where there is a member below it
pub last_below : (xs : List ℕ) (low bound : ℕ) → IsStrictlyIncreasing xs → Contains xs low → low < bound
    → (h : ℕ) × (Contains xs h × (low ≤ h) × (h < bound) × ((r : ℕ) → Contains xs r → r < bound → r ≤ h))
last_below [] low bound rising c l = absurd (none_in_nil low c)
last_below (x ∷ []) low bound rising c l =
    let same : x ≡ low = elim (Contains-cases x [] low c) [ inl e ↦ e | inr d ↦ absurd (none_in_nil low d) ] in
    (low, (c, omega arith, l, λ r d m. elim (Contains-cases x [] r d) [ inl e ↦ omega arith | inr d ↦ absurd (none_in_nil r d) ]))
last_below (x ∷ y ∷ ys) low bound rising c l =
    let tail : IsStrictlyIncreasing (y ∷ ys) = rising-tail x (y ∷ ys) rising in
    elim (below_or_not y bound) [
      | inl more ↦
          let ih : (h : ℕ) × (Contains (y ∷ ys) h × (y ≤ h) × (h < bound) × ((r : ℕ) → Contains (y ∷ ys) r → r < bound → r ≤ h)) =
          last_below (y ∷ ys) y bound tail (here y ys) more in
          let xy : x < y = rising-head x (y ∷ ys) rising y (here y ys) in
          let all : (r : ℕ) → Contains (x ∷ y ∷ ys) r → r < bound → r ≤ ih.0 = λ r d m. elim (Contains-cases x (y ∷ ys) r d) [
            | inl e ↦ omega (arith, ih.1.1)
            | inr d ↦ ih.1.3 r d m
          ] in
          (ih.0, (there x ih.0 (y ∷ ys) ih.1.0, all low c l, ih.1.2, all))
      | inr none ↦
          let last : (r : ℕ) → Contains (x ∷ y ∷ ys) r → r < bound → r ≡ x = λ r d m. elim (Contains-cases x (y ∷ ys) r d) [
            | inl e ↦ sym e
            | inr d ↦ absurd (let least : y ≤ r = first-least (y ∷ ys) r tail d in omega arith)
          ] in
          (low, (c, omega arith, l, λ r d m. omega (arith, last r d m, last low c l)))
    ]
