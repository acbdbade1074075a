-- The place of a series in a head.
use Rattle.std.specs.Prelude.{◌≡◌, ℕ, suc, ℤ, ◌+◌, ◌<◌, ◌≤◌, true, false, cond, List, [], ◌∷◌, ◌++◌, None, Some, Result, Ok, Err, refl, length, slice_set, slice_index_or, nat_le, int_lt, is_some, if◌then◌else◌, MatchResult, unwrap_or}
use Rattle.std.specs.Ordering.{int_eq}
use Rattle.std.proofs.Common.{sym, ◌∙◌, ap, subst, arith}
use Rattle.std.proofs.lemmas.Bool.Decides.{nat_tests}
use Rattle.head.specs.declared.error.CommitError.{CommitError}
use Rattle.head.specs.declared.error.CommitError.TheVariants.{OutOfBounds, OutOfOrder, Duplicate, Limit, CutTooLow, TooManyParts, Seat, Journal, Memory}
use Rattle.head.specs.Outcomes.{IsStepRefusal}
use Rattle.labels.specs.Labels.{Labels, same_labels}
use Rattle.head.specs.Refusals.{Refusal, out_of_bounds, out_of_order, duplicate, limit}
use Rattle.head.specs.Limits.{max_series, max_samples}
use Rattle.head.specs.Heads.{HeadSeries, series_at}
use Rattle.head.specs.Taking.{grown, extended, place_from, series_added, new_added, head_added, head_added_after, with_series}
use Rattle.labels.proofs.Times.{true_not_false}

-- the first series with these labels stands here
pub record Stands (l : Labels) (head : List HeadSeries) (k : ℕ) : Type 0 where
  pub below : k < length head
  pub found : (d : HeadSeries) → series_at l head ≡ Some (slice_index_or head k d)
  pub sets : (d : HeadSeries) (s : ℤ × ℤ) → slice_set head k (grown s (slice_index_or head k d)) ≡ extended l s head
  pub keeps : (d : HeadSeries) → slice_set head k (slice_index_or head k d) ≡ head

pub missing_place : (l : Labels) (n : ℕ) (head : List HeadSeries) (i : ℕ) → place_from l n head ≡ None → (s : ℤ × ℤ) →
    (series_at l head ≡ None) × (extended l s head ≡ head ++ record { labels = l; samples = s ∷ []; newest = s } ∷ [])
missing_place l n [] i e s = (refl, refl)
missing_place l n (h ∷ hs) i e s =
    elim (same_labels l h.labels) as (λ b. cond b (Some n) (place_from l (n + 1) hs) ≡ None → (cond b (Some h) (series_at l hs) ≡ None) × (cond b (grown s h ∷ hs) (h ∷ extended l s hs) ≡ h ∷ (hs ++ record { labels = l; samples = s ∷ []; newest = s } ∷ []))) [
      | true ↦ λ f. absurd (true_not_false (ap is_some f))
      | false ↦ λ f. let rest = missing_place l (n + 1) hs i f s in (rest.0, ap (λ ts. h ∷ ts) rest.1)
    ] e

first_place : (n i : ℕ) → n ≡ i → i ≡ n + 0
first_place n i e = omega arith

next_place : (n k i : ℕ) → i ≡ (n + 1) + k → i ≡ n + suc k
next_place n k i e = omega arith

pub stands : (l : Labels) (n : ℕ) (head : List HeadSeries) (i : ℕ) → place_from l n head ≡ Some i → (k : ℕ) × (i ≡ n + k) × Stands l head k
stands l n [] i e = absurd (true_not_false (sym (ap is_some e)))
stands l n (h ∷ hs) i e =
    elim (same_labels l h.labels) as (λ b. same_labels l h.labels ≡ b → cond b (Some n) (place_from l (n + 1) hs) ≡ Some i → (k : ℕ) × (i ≡ n + k) × Stands l (h ∷ hs) k) [
      | true ↦ λ is f. (
        0,
        first_place n i (ap (λ o. unwrap_or o 0) f),
        record {
          below = omega arith;
          found = λ d. ap (λ b. cond b (Some h) (series_at l hs)) is;
          sets = λ d s. sym (ap (λ b. cond b (grown s h ∷ hs) (h ∷ extended l s hs)) is);
          keeps = λ d. refl;
        },
      )
      | false ↦ λ is f. let rest = stands l (n + 1) hs i f in (
        suc rest.0,
        next_place n rest.0 i rest.1,
        record {
          below = let b = rest.2.below in omega arith;
          found = λ d. ap (λ b. cond b (Some h) (series_at l hs)) is ∙ rest.2.found d;
          sets = λ d s. ap (λ ts. h ∷ ts) (rest.2.sets d s) ∙ sym (ap (λ b. cond b (grown s h ∷ hs) (h ∷ extended l s hs)) is);
          keeps = λ d. ap (λ ts. h ∷ ts) (rest.2.keeps d);
        },
      )
    ] refl e

same_place : (i k : ℕ) → i ≡ 0 + k → k ≡ i
same_place i k e = omega arith

pub stands_at : (l : Labels) (head : List HeadSeries) (i : ℕ) → place_from l 0 head ≡ Some i → Stands l head i
stands_at l head i e = let r = stands l 0 head i e in subst (Stands l head) (same_place i r.0 r.1) r.2

pub head_added-series_added : (head : List HeadSeries) (at : ℕ) (l : Labels) (s : ℤ × ℤ) (k : ℕ) (d : HeadSeries) → Stands l head k →
    head_added_after head at l s (series_at l head) ≡ with_series head k (series_added at s (slice_index_or head k d))
head_added-series_added head at l s k d st =
    let h = slice_index_or head k d in
    ap (head_added_after head at l s) (st.found d)
    ∙ elim (int_lt s.0 h.newest.0) as (λ a. (if a then Err (out_of_order at) else if int_eq s.0 h.newest.0 then (if int_eq s.1 h.newest.1 then Ok head else Err (duplicate at)) else if nat_le max_samples (length h.samples) then Err limit else Ok (extended l s head))
    ≡ with_series head k (if a then Err (out_of_order at) else if int_eq s.0 h.newest.0 then (if int_eq s.1 h.newest.1 then Ok h else Err (duplicate at)) else if nat_le max_samples (length h.samples) then Err limit else Ok (grown s h))) [
      | true ↦ refl
      | false ↦ elim (int_eq s.0 h.newest.0) as (λ a. (if a then (if int_eq s.1 h.newest.1 then Ok head else Err (duplicate at)) else if nat_le max_samples (length h.samples) then Err limit else Ok (extended l s head))
          ≡ with_series head k (if a then (if int_eq s.1 h.newest.1 then Ok h else Err (duplicate at)) else if nat_le max_samples (length h.samples) then Err limit else Ok (grown s h))) [
            | true ↦ elim (int_eq s.1 h.newest.1) as (λ a. (if a then Ok head else Err (duplicate at)) ≡ with_series head k (if a then Ok h else Err (duplicate at))) [
              | true ↦ ap Ok (sym (st.keeps d))
              | false ↦ refl
            ]
            | false ↦ elim (nat_le max_samples (length h.samples)) as (λ a. (if a then Err limit else Ok (extended l s head)) ≡ with_series head k (if a then Err limit else Ok (grown s h))) [
              | true ↦ refl
              | false ↦ ap Ok (sym (st.sets d s))
            ]
          ]
    ]

pub head_added-new_added : (head : List HeadSeries) (at : ℕ) (l : Labels) (s : ℤ × ℤ) → place_from l 0 head ≡ None →
    head_added_after head at l s (series_at l head) ≡ new_added l s head
head_added-new_added head at l s e =
    let is = missing_place l 0 head 0 e s in
    ap (head_added_after head at l s) is.0
    ∙ ap (λ (ts : List HeadSeries). if nat_le max_series (length head) then Err limit else Ok ts) is.1

answer_with : (e : CommitError) (head : List HeadSeries) (k : ℕ) (r : Result HeadSeries Refusal) → IsStepRefusal e r → IsStepRefusal e (with_series head k r)
answer_with (OutOfBounds n) head k r is = ap (with_series head k) is
answer_with (OutOfOrder n) head k r is = ap (with_series head k) is
answer_with (Duplicate n) head k r is = ap (with_series head k) is
answer_with Limit head k r is = ap (with_series head k) is
answer_with CutTooLow head k r is = ap (with_series head k) is
answer_with TooManyParts head k r is = ap (with_series head k) is
answer_with Seat head k r is = absurd is
answer_with Journal head k r is = absurd is
answer_with Memory head k r is = tt

-- the outcome at the series is that at the head
pub carried : {V : Type 0} (res : Result V CommitError) (head : List HeadSeries) (k : ℕ) (new : HeadSeries) (r : Result HeadSeries Refusal) (q : Result (List HeadSeries) Refusal) → q ≡ with_series head k r →
    MatchResult res (λ _. r ≡ Ok new) (λ e. IsStepRefusal e r) → MatchResult res (λ _. q ≡ Ok (slice_set head k new)) (λ e. IsStepRefusal e q)
carried (Ok u) head k new r q e is = e ∙ ap (with_series head k) is
carried (Err f) head k new r q e is = subst (IsStepRefusal f) (sym e) (answer_with f head k r is)

-- the outcome of an equal step
pub same_outcome : {V : Type 0} (res : Result V CommitError) (new : List HeadSeries) (r q : Result (List HeadSeries) Refusal) → q ≡ r →
    MatchResult res (λ _. r ≡ Ok new) (λ e. IsStepRefusal e r) → MatchResult res (λ _. q ≡ Ok new) (λ e. IsStepRefusal e q)
same_outcome res new r q e is = subst (λ k. MatchResult res (λ _. k ≡ Ok new) (λ f. IsStepRefusal f k)) (sym e) is

-- a time that is not below the floor
pub head_added-inside : (floor : ℤ) (head : List HeadSeries) (at : ℕ) (l : Labels) (s : ℤ × ℤ) → int_lt s.0 floor ≡ false →
    head_added floor head at (l, s) ≡ head_added_after head at l s (series_at l head)
unfolding head_added
head_added-inside floor head at l s e = ap (λ b. if b then Err (out_of_bounds at) else head_added_after head at l s (series_at l head)) e

-- a label set that the head has not, where there is no room for one more series, and where there is
pub new_full : (l : Labels) (s : ℤ × ℤ) (head : List HeadSeries) → max_series ≤ length head → new_added l s head ≡ Err limit
new_full l s head full = ap (λ b. if b then Err limit else Ok (head ++ record { labels = l; samples = s ∷ []; newest = s } ∷ [])) (at_most max_series (length head) full)
  where
    at_most : (a b : ℕ) → a ≤ b → nat_le a b ≡ true
    at_most a b h = grind (arith, nat_tests)

pub new_taken : (l : Labels) (s : ℤ × ℤ) (head : List HeadSeries) → length head < max_series → new_added l s head ≡ Ok (head ++ record { labels = l; samples = s ∷ []; newest = s } ∷ [])
new_taken l s head room = ap (λ b. if b then Err limit else Ok (head ++ record { labels = l; samples = s ∷ []; newest = s } ∷ [])) (above max_series (length head) room)
  where
    above : (a b : ℕ) → b < a → nat_le a b ≡ false
    above a b h = grind (arith, nat_tests)

-- what a series answers is what the head answers
pub answered : (head : List HeadSeries) (k : ℕ) (h g : HeadSeries) (r : Refusal) (step : HeadSeries → Result HeadSeries Refusal) → h ≡ g → step h ≡ Err r → with_series head k (step g) ≡ Err r
answered head k h g r step same is = ap (λ x. with_series head k (step x)) (sym same) ∙ ap (with_series head k) is
