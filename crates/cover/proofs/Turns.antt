-- one turn of the walk
use Rattle.std.proofs.Common.{◌≡◌, ℕ, ◌<◌, ◌≤◌, Bool, true, false, cond, inl, inr, List, [], ◌∷◌, ◌++◌, max, refl, sym, ◌∙◌, ap, subst, arith}
use Rattle.std.specs.List.{filter, Contains}
use Rattle.std.specs.List.Sorted.{IsStrictlyIncreasing}
use Rattle.std.specs.Prelude.{nat_le, Option, None, Some}
use Rattle.std.proofs.lemmas.Bool.Decides.{nat_tests}
use Rattle.labels.specs.Ascending.{first_of, rest_of, not_below, first_or_end, or_end}
use Rattle.labels.proofs.Lists.{here, there, rising-tail, rising-head, filter-from, filter-all, not_below-twice, not_below-here, or_end-first, first-least, rising-filter, below_or_not}
use Rattle.cover.specs.declared.certificate.Interval.{Interval}
use Rattle.cover.specs.declared.certificate.Verdict.{Verdict}
use Rattle.cover.specs.declared.certificate.Verdict.TheVariants.{Match, NoSample, Rejected}
use Rattle.cover.specs.Certificates.{Asked, IsAsked, begins_of}
use Rattle.cover.specs.Walking.{TellsFarthest, MovesOn, Sought}
use Rattle.cover.proofs.Greedy.{Sofar, sofar_none, IsGood, reach, reach_of, reach_live, passes_at, good_rejected, good_silent, good_match, first_rest}

first_bound : (xs : List ℕ) → ((r : ℕ) → Contains xs r → r < 4294967296)
    → first_or_end xs ≤ 4294967296
first_bound [] h = omega arith
first_bound (x ∷ xs) h = let l : x < 4294967296 = h x (here x xs) in omega arith

reach_bound : (a : Asked) (test : ℕ → Bool) (e : ℕ) → IsAsked a
    → reach_of a.references test e ≤ 4294967296
reach_bound a test e part = first_bound (not_below e (filter test a.references)) (λ r m.
    let k : Contains (filter test a.references) r × (nat_le e r ≡ true) =
    filter-from (λ x. nat_le e x) (filter test a.references) r m in
    let l : Contains a.references r × (test r ≡ true) = filter-from test a.references r k.0 in
    part.in_range r l.0)

first_in : (xs : List ℕ) (r : ℕ) → first_of xs ≡ Some r → Contains xs r
first_in [] r h = cc
first_in (x ∷ xs) r h =
    let same : x ≡ r = cc in subst (λ (z : ℕ). Contains (x ∷ xs) z) same (here x xs)

none_first : (xs : List ℕ) → first_of xs ≡ None → first_or_end xs ≡ 4294967296
none_first [] h = refl
none_first (x ∷ xs) h = cc

-- what follows e in an ascending list is what is not below the next
after_first : (xs : List ℕ) (e r : ℕ) → IsStrictlyIncreasing xs → Contains xs e
    → first_of (rest_of (not_below e xs)) ≡ Some r
    → (e < r) × Contains xs r × (rest_of (not_below e xs) ≡ not_below r xs)
after_first xs e r rising c next =
    let rising' : IsStrictlyIncreasing (not_below e xs) =
    rising-filter (λ x. nat_le e x) xs rising in
    let split : not_below e xs ≡ e ∷ rest_of (not_below e xs) =
    first_rest (not_below e xs) e (not_below-here xs e rising c) in
    let whole : IsStrictlyIncreasing (e ∷ rest_of (not_below e xs)) =
    subst IsStrictlyIncreasing split rising' in
    let in_rest : Contains (rest_of (not_below e xs)) r =
    first_in (rest_of (not_below e xs)) r next in
    let lt : e < r = rising-head e (rest_of (not_below e xs)) whole r in_rest in
    let in_all : Contains (not_below e xs) r =
    subst (λ (ys : List ℕ). Contains ys r) (sym split)
    (there e r (rest_of (not_below e xs)) in_rest) in
    let tail : IsStrictlyIncreasing (rest_of (not_below e xs)) =
    rising-tail e (rest_of (not_below e xs)) whole in
    let begins : first_or_end (rest_of (not_below e xs)) ≡ r =
    sym (or_end-first (rest_of (not_below e xs))) ∙ ap or_end next in
    let low : (s : ℕ) → Contains (rest_of (not_below e xs)) s → nat_le r s ≡ true = λ s m.
    let l : first_or_end (rest_of (not_below e xs)) ≤ s =
    first-least (rest_of (not_below e xs)) s tail m in
    tests r s (omega arith) in
    let test : nat_le r e ≡ false = grind (arith, nat_tests) in
    let top : max e r ≡ r = omega arith in (
      lt,
      (filter-from (λ x. nat_le e x) xs r in_all).0,
      sym (
          ap (λ n. not_below n xs) (sym top)
          ∙ sym (not_below-twice e r xs)
          ∙ ap (not_below r) split
          ∙ ap (λ b. cond b (e ∷ not_below r (rest_of (not_below e xs)))
          (not_below r (rest_of (not_below e xs)))) test
          ∙ filter-all (λ x. nat_le r x) (rest_of (not_below e xs)) low),
    )
  where
    tests : (r s : ℕ) → r ≤ s → nat_le r s ≡ true
    tests r s h = grind (arith, nat_tests)

pub record Turn (a : Asked) (from : ℕ) (verdict : Verdict) (after : List ℕ)
    (next : Option ℕ) : Type 0 where
  pub good : IsGood a (record { from = from; until = or_end next; verdict = verdict })
  pub forward : from < or_end next
  pub stands : (r : ℕ) → next ≡ Some r
      → Contains a.references r × (after ≡ not_below r a.references)

-- after a seek to where the references that pass a test begin again
sought_next : (a : Asked) (test : ℕ → Bool) (from end : ℕ) (before after : List ℕ) (next : Option ℕ)
    → IsAsked a → before ≡ not_below from a.references
    → reach_of a.references test from ≡ end → from < end → Sought before after end next
    → (or_end next ≡ end)
    × ((r : ℕ) → next ≡ Some r → Contains a.references r × (after ≡ not_below r a.references))
sought_next a test from end before after next part was is ahead move =
    let top : reach_of a.references test from ≤ 4294967296 = reach_bound a test from part in
    elim (below_or_not end 4294967296) [
      | inl below ↦
          let m : (after ≡ not_below end before) × (next ≡ first_of after) = move.0 below in
          let at : Contains a.references (reach_of a.references test from)
          × (test (reach_of a.references test from) ≡ true)
          × (from ≤ reach_of a.references test from) =
          passes_at a.references test from (omega arith) in
          let here_it : Contains a.references end =
          subst (λ (z : ℕ). Contains a.references z) is at.0 in
          let both : max from end ≡ end = omega arith in
          let after_is : after ≡ not_below end a.references =
          m.0
          ∙ ap (not_below end) was
          ∙ not_below-twice from end a.references
          ∙ ap (λ z. not_below z a.references) both in
          let next_is : next ≡ Some end =
          m.1 ∙ ap first_of after_is ∙ not_below-here a.references end part.ascending here_it in (
            ap or_end next_is,
            λ r e. let same_r : end ≡ r = some_same next end r next_is e in (
              subst (λ (z : ℕ). Contains a.references z) same_r here_it,
              after_is ∙ ap (λ z. not_below z a.references) same_r,
            ),
          )
      | inr past ↦
          let next_is : next ≡ None = move.1 past in
          (ap or_end next_is ∙ omega arith, λ r e. absurd (none_some next r next_is e))
    ]
  where
    some_same : (next : Option ℕ) (x y : ℕ) → next ≡ Some x → next ≡ Some y → x ≡ y
    some_same next x y e f = cc

    none_some : (next : Option ℕ) (y : ℕ) → next ≡ None → next ≡ Some y → ⊥
    none_some next y e f = cc

pub turn : (a : Asked) (from : ℕ) (begins : ℕ → ℕ) (n live end : ℕ) (verdict : Verdict)
    (before after : List ℕ) (next : Option ℕ)
    → IsAsked a → Contains a.references from → n ≡ a.matchers → before ≡ not_below from a.references
    → ((k : ℕ) → k < n → begins k ≡ reach a from k) → live ≡ reach_live a from
    → TellsFarthest begins n live from verdict end → MovesOn before after verdict end next
    → Turn a from verdict after next
turn a from begins n live end Match before after next part c count was same lives far move =
    let next_is : next ≡ first_of (rest_of (not_below from a.references)) =
    move.1 ∙ ap first_of (move.0 ∙ ap rest_of was) in
    let until_is : or_end next ≡ first_or_end (rest_of (not_below from a.references)) =
    ap or_end next_is ∙ or_end-first (rest_of (not_below from a.references)) in
    let stands : (r : ℕ) → next ≡ Some r
    → Contains a.references r × (after ≡ not_below r a.references) = λ r e.
    let f : (from < r) × Contains a.references r
    × (rest_of (not_below from a.references) ≡ not_below r a.references) =
    after_first a.references from r part.ascending c (sym next_is ∙ e) in
    (f.1, move.0 ∙ ap rest_of was ∙ f.2) in
    let forward : from < or_end next = ahead next from a part c next_is in
    record {
      good =
          good_match a from (or_end next) part c forward until_is
          (λ k m. let l : begins k ≤ end = far.least k (omega (arith, m)) in
          omega (arith, same k (omega (arith, m)), far.at)) (omega (arith, far.live_least, far.at));
      forward = forward;
      stands = stands;
    }
  where
    ahead : (next : Option ℕ) (from : ℕ) (a : Asked) → IsAsked a → Contains a.references from
        → next ≡ first_of (rest_of (not_below from a.references)) → from < or_end next
    ahead None from a part c e = part.in_range from c
    ahead (Some r) from a part c e = (after_first a.references from r part.ascending c (sym e)).0
turn a from begins n live end NoSample before after next part c count was same lives far move =
    let is : reach_live a from ≡ end = sym lives ∙ far.at.0 in
    let top : reach_live a from ≤ 4294967296 = reach_bound a (λ (x : ℕ). a.live x) from part in
    let seen : (or_end next ≡ end)
    × ((r : ℕ) → next ≡ Some r → Contains a.references r × (after ≡ not_below r a.references)) =
    sought_next a (λ (x : ℕ). a.live x) from end before after next part was is far.at.1 move in
    let forward : from < or_end next = omega (arith, seen.0, far.at.1) in
    record {
      good =
          good_silent a from (or_end next) part c forward (omega (arith, seen.0)) (is ∙ sym seen.0)
          (λ k m. let l : begins k < end = far.at.2 k (omega (arith, m, count)) in
          omega (arith, same k (omega (arith, m, count)), seen.0));
      forward = forward;
      stands = seen.1;
    }
turn a from begins n live end (Rejected j) before after next part c count was same lives far move =
    let jn : j < n = far.at.0 in
    let is : reach a from j ≡ end = sym (same j jn) ∙ far.at.1 in
    let top : reach a from j ≤ 4294967296 = reach_bound a (λ (x : ℕ). a.accepts j x) from part in
    let seen : (or_end next ≡ end)
    × ((r : ℕ) → next ≡ Some r → Contains a.references r × (after ≡ not_below r a.references)) =
    sought_next a (λ (x : ℕ). a.accepts j x) from end before after next part was is far.at.2 move in
    let forward : from < or_end next = omega (arith, seen.0, far.at.2) in
    record {
      good = good_rejected a from (or_end next) j part c forward (omega (arith, seen.0)) (omega (
        arith,
        count,
      )) (is ∙ sym seen.0)
          (λ k m. let l : begins k ≤ end = far.least k (omega (arith, m, count)) in
          omega (arith, same k (omega (arith, m, count)), seen.0))
          (omega (arith, far.live_least, lives, seen.0))
          (λ k m. let l : begins k < end = far.at.3 k m in
          omega (arith, same k (omega (arith, m, jn)), seen.0));
      forward = forward;
      stands = seen.1;
    }

pub stands_at : (a : Asked) (from : ℕ) (verdict : Verdict) (after : List ℕ) (next : Option ℕ)
    → Turn a from verdict after next
    → or_end next < 4294967296
    → Contains a.references (or_end next) × (after ≡ not_below (or_end next) a.references)
stands_at a from verdict after None t l = absurd (omega (arith, l))
stands_at a from verdict after (Some r) t l = t.stands r refl

pub starts : (a : Asked) → IsAsked a → Sofar a [] (first_or_end a.references)
starts a part =
    sofar_none a (first_or_end a.references) (λ r m. first-least a.references r part.ascending m)

first-in' : (xs : List ℕ) → first_or_end xs < 4294967296 → Contains xs (first_or_end xs)
first-in' [] h = absurd (omega arith)
first-in' (x ∷ xs) h = here x xs

le_test : (r s : ℕ) → r ≤ s → nat_le r s ≡ true
le_test r s h = grind (arith, nat_tests)

pub starts_stand : (a : Asked) → IsAsked a → first_or_end a.references < 4294967296
    → Contains a.references (first_or_end a.references)
    × (a.references ≡ not_below (first_or_end a.references) a.references)
starts_stand a part l = (
  first-in' a.references l,
  sym (filter-all (λ r. nat_le (first_or_end a.references) r) a.references (λ r m.
      le_test _ r (first-least a.references r part.ascending m))),
)

pub not_below_zero : (xs : List ℕ) → xs ≡ not_below 0 xs
not_below_zero xs = sym (filter-all (λ r. nat_le 0 r) xs (λ r m. le_test 0 r (omega arith)))

pub begins_push : (c : List Interval) (i : Interval)
    → begins_of (c ++ i ∷ []) ≡ begins_of c ++ i.from ∷ []
begins_push [] i = refl
begins_push (k ∷ ks) i = ap (λ xs. k.from ∷ xs) (begins_push ks i)

-- a list that was at b and is moved to e
pub sought : (xs : List ℕ) (b e : ℕ) (remaining : List ℕ) → b ≤ e → remaining ≡ not_below b xs
    → not_below e remaining ≡ not_below e xs
sought xs b e remaining l is =
    let top : max b e ≡ e = omega arith in
    ap (not_below e) is ∙ not_below-twice b e xs ∙ ap (λ n. not_below n xs) top

pub starts_within : (a : Asked) → IsAsked a → first_or_end a.references ≤ 4294967296
starts_within a part = first_bound a.references part.in_range

pub turn_within : (a : Asked) (from : ℕ) (verdict : Verdict) (after : List ℕ) (next : Option ℕ)
    → IsAsked a → Turn a from verdict after next → or_end next ≤ 4294967296
turn_within a from verdict after None part t = omega arith
turn_within a from verdict after (Some r) part t =
    let l : r < 4294967296 = part.in_range r (t.stands r refl).0 in omega arith
