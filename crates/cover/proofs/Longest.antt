-- to be longest is to go farthest
use Rattle.std.proofs.Common.{◌≡◌, ℕ, ◌<◌, ◌≤◌, Bool, true, false, cond, ◌&&◌, inl, inr, List, [], ◌∷◌, length, Some, refl, ◌∙◌, ap, subst, arith}
use Rattle.std.specs.List.{filter, Contains}
use Rattle.std.specs.List.Sorted.{IsStrictlyIncreasing}
use Rattle.std.specs.Prelude.{nat_le, nat_lt}
use Rattle.std.proofs.lemmas.Bool.Decides.{nat_tests}
use Rattle.labels.specs.Ascending.{first_of}
use Rattle.labels.proofs.Lists.{here, there, Contains-cases, none_in_nil, rising-filter, first-least, below_or_not}
use Rattle.cover.specs.declared.certificate.Interval.{Interval}
use Rattle.cover.specs.Certificates.{Asked, IsAsked, references_between, IsRun, IsFittingRun, run_of, IsLongest, IsLeftmost}
use Rattle.cover.proofs.Runs.{of_run, in_between, of_between}

-- no fitting run with the interval's first reference has a reference at or past its end
abbrev pub GoesFarthest : Asked → Interval → Type 0
GoesFarthest a i =
    (high : ℕ) → Contains a.references high
    → IsFittingRun a (references_between a i.from high) → high < i.until

step_le : (b c : Bool) (xs ys : List ℕ) (x : ℕ) → (b ≡ true → c ≡ true) → length xs ≤ length ys
    → length (cond b (x ∷ xs) xs) ≤ length (cond c (x ∷ ys) ys)
step_le true true xs ys x h l = omega arith
step_le true false xs ys x h l = absurd (let e : false ≡ true = h refl in cc)
step_le false true xs ys x h l = omega arith
step_le false false xs ys x h l = l

filter_le : (p q : ℕ → Bool) (xs : List ℕ) → ((r : ℕ) → Contains xs r → p r ≡ true → q r ≡ true)
    → length (filter p xs) ≤ length (filter q xs)
filter_le p q [] h = omega arith
filter_le p q (x ∷ xs) h =
    step_le (p x) (q x) (filter p xs) (filter q xs) x (h x (here x xs))
    (filter_le p q xs (λ r c. h r (there x r xs c)))

filter_lt : (p q : ℕ → Bool) (xs : List ℕ) (y : ℕ)
    → ((r : ℕ) → Contains xs r → p r ≡ true → q r ≡ true) → Contains xs y → p y ≡ false → q y ≡ true
    → length (filter p xs) < length (filter q xs)
filter_lt p q [] y h c n t = absurd (none_in_nil y c)
filter_lt p q (x ∷ xs) y h c n t = elim (Contains-cases x xs y c) [
  | inl e ↦
      let np : p x ≡ false = ap p e ∙ n in
      let tq : q x ≡ true = ap q e ∙ t in
      let l : length (filter p xs) ≤ length (filter q xs) =
      filter_le p q xs (λ r d. h r (there x r xs d)) in
      rw (np, tq) (omega arith)
  | inr d ↦
      let ih : length (filter p xs) < length (filter q xs) =
      filter_lt p q xs y (λ r m. h r (there x r xs m)) d n t in
      strict (p x) (q x) (filter p xs) (filter q xs) x (h x (here x xs)) ih
]
  where
    strict : (b c : Bool) (xs ys : List ℕ) (x : ℕ) → (b ≡ true → c ≡ true) → length xs < length ys
        → length (cond b (x ∷ xs) xs) < length (cond c (x ∷ ys) ys)
    strict true true xs ys x h l = omega arith
    strict true false xs ys x h l = absurd (let e : false ≡ true = h refl in cc)
    strict false true xs ys x h l = omega arith
    strict false false xs ys x h l = l

first_in : (xs : List ℕ) (r : ℕ) → first_of xs ≡ Some r → Contains xs r
first_in [] r h = cc
first_in (x ∷ xs) r h =
    let same : x ≡ r = cc in subst (λ (z : ℕ). Contains (x ∷ xs) z) same (here x xs)

first_low : (xs : List ℕ) (r s : ℕ) → IsStrictlyIncreasing xs → first_of xs ≡ Some r
    → Contains xs s → r ≤ s
first_low [] r s h e c = absurd (none_in_nil s c)
first_low (x ∷ xs) r s h e c =
    let same : x ≡ r = cc in let l : x ≤ s = first-least (x ∷ xs) s h c in omega arith

pub farthest_longest : (a : Asked) (i : Interval) → IsAsked a → GoesFarthest a i → IsLongest a i
farthest_longest a i part far run fit begins =
    let r : IsRun a run = fit.is_run in
    let begins' : first_of (references_between a r.low r.high) ≡ Some i.from =
    subst (λ (xs : List ℕ). first_of xs ≡ Some i.from) r.is begins in
    let rising : IsStrictlyIncreasing (references_between a r.low r.high) =
    rising-filter _ a.references part.ascending in
    let down : i.from ≤ r.low =
    first_low (references_between a r.low r.high) i.from r.low rising begins'
    (in_between a r.low r.high r.low r.has_low (omega arith) r.ordered) in
    let up : Contains a.references i.from × (r.low ≤ i.from) × (i.from ≤ r.high) =
    of_between a r.low r.high i.from (first_in (references_between a r.low r.high) i.from begins') in
    let same : r.low ≡ i.from = omega (arith, up.1) in
    let run_is : run ≡ references_between a i.from r.high = r.is ∙ ap (λ (l : ℕ). references_between a l r.high) same in
    let below : r.high < i.until = far r.high r.has_high (subst (IsFittingRun a) run_is fit) in
    let shorter : length (references_between a i.from r.high) ≤ length (run_of a i) =
    filter_le (λ x. nat_le i.from x && nat_le x r.high) (λ x. nat_le i.from x && nat_lt x i.until)
    a.references (λ x _ t. wider i.from r.high i.until x below t) in
    omega (arith, ap length run_is)
  where
    wider : (low high until x : ℕ) → high < until → (nat_le low x && nat_le x high) ≡ true
        → (nat_le low x && nat_lt x until) ≡ true
    wider low high until x l t = grind (arith, nat_tests)

first_between : (a : Asked) (low high : ℕ) → IsAsked a → Contains a.references low → low ≤ high
    → first_of (references_between a low high) ≡ Some low
first_between a low high part c l =
    go (references_between a low high) (rising-filter _ a.references part.ascending)
    (in_between a low high low c (omega arith) l) (λ s m. (of_between a low high s m).1)
  where
    go : (xs : List ℕ) → IsStrictlyIncreasing xs → Contains xs low
        → ((s : ℕ) → Contains xs s → low ≤ s) → first_of xs ≡ Some low
    go [] h c b = absurd (none_in_nil low c)
    go (x ∷ xs) h c b =
        let up : x ≤ low = first-least (x ∷ xs) low h c in
        let down : low ≤ x = b x (here x xs) in
        let same : x ≡ low = omega arith in
        ap Some same

pub longest_farthest : (a : Asked) (i : Interval) → IsAsked a → Contains a.references i.from
    → i.from < i.until → IsLongest a i → GoesFarthest a i
longest_farthest a i part c forward long = λ high ch fit.
    elim (below_or_not high i.until) [
      | inl done ↦ done
      | inr past ↦ absurd (
          let le : length (references_between a i.from high) ≤ length (run_of a i) =
          long (references_between a i.from high) fit (first_between a i.from high part c (omega arith)) in
          let lt : length (run_of a i) < length (references_between a i.from high) =
          filter_lt (λ x. nat_le i.from x && nat_lt x i.until) (λ x. nat_le i.from x
          && nat_le x high) a.references high (λ x _ t. narrower i.from high i.until x past t) ch
          (out i.from high i.until past) (inside i.from high (omega arith)) in
          omega arith)
    ]
  where
    narrower : (low high until x : ℕ) → until ≤ high → (nat_le low x && nat_lt x until) ≡ true
        → (nat_le low x && nat_le x high) ≡ true
    narrower low high until x l t = grind (arith, nat_tests)

    out : (low high until : ℕ) → until ≤ high → (nat_le low high && nat_lt high until) ≡ false
    out low high until l = grind (arith, nat_tests)

    inside : (low high : ℕ) → low ≤ high → (nat_le low high && nat_le high high) ≡ true
    inside low high l = grind (arith, nat_tests)

pub leftmost_far : (a : Asked) (c : List Interval) → IsAsked a → IsLeftmost a c → (i : Interval)
    → Contains c i → GoesFarthest a i
leftmost_far a c part left i m =
    let k : Contains a.references i.from × (i.from ≤ i.from) × (i.from < i.until) =
    of_run a i i.from (left.valid.begins i m) in
    longest_farthest a i part k.0 k.2 (left.longest i m)
