-- The samples of a row at a series that the version in the making owns.
use Rattle.std.specs.Prelude.{◌≡◌, ℕ, zero, suc, ℤ, ◌<◌, true, false, List, [], ◌∷◌, Some, Result, Ok, Err, refl, length, slice_set, slice_index_or, int_lt, if◌then◌else◌, OnOk, T}
use Rattle.std.proofs.Common.{sym, ◌∙◌, ap, subst, arith}
use Rattle.std.proofs.lemmas.List.{get_or-set_same}
use Rattle.head.specs.declared.error.CommitError.{CommitError}
use Rattle.head.specs.Outcomes.{IsOutcome}
use Rattle.labels.specs.Labels.{Labels}
use Rattle.head.specs.Refusals.{out_of_bounds}
use Rattle.head.specs.Heads.{HeadSeries, series_at}
use Rattle.head.specs.Orders.{sets_of}
use Rattle.head.specs.BatchRows.{pairs_with}
use Rattle.head.specs.OwnSteps.{StandsIn, Takes, IsOwnGrown}
use Rattle.head.specs.Slots.{Slot, Own, series_in, series_in_each, AllOwn, AddsNoOwnBut}
use Rattle.head.specs.Taking.{head_added, head_added_each, head_added_after, series_added, place_from, with_series}
use Rattle.head.proofs.Ordered.{same_place, like_series}
use Rattle.head.proofs.Places.{stands_at, head_added-series_added, head_added-inside, carried}
use Rattle.head.proofs.SlotLaws.{on_ok, labels_stay, same_inside, AllOwn-set, length-each}
use Rattle.std.proofs.Math.Seq.{map-set_same}
use Rattle.std.proofs.lemmas.List.{map-set}

-- a time below the floor is refused at each head
pub refused_below : (floor : ℤ) (at : ℕ) (s : ℤ × ℤ) → int_lt s.0 floor ≡ true → (l : Labels) (head : List HeadSeries) → head_added floor head at (l, s) ≡ Err (out_of_bounds at)
unfolding head_added
refused_below floor at s low l head = ap (λ b. if b then Err (out_of_bounds at) else head_added_after head at l s (series_at l head)) low

-- the outcome at the series is that at each head
pub takes : {V : Type 0} (res : Result V CommitError) (floor : ℤ) (at : ℕ) (s : ℤ × ℤ) (old new : HeadSeries) → int_lt s.0 floor ≡ false → IsOutcome res (series_added at s old) new → Takes floor at s res old new
takes res floor at s old new inside outcome = λ l head k st.
    carried res head k new (series_added at s old) (head_added floor head at (l, s))
    (head_added-inside floor head at l s inside
    ∙ head_added-series_added head at l s k old (stands_at l head k st.0)
    ∙ ap (λ (h : HeadSeries). with_series head k (series_added at s h)) (st.1 old))
    outcome

-- a series stands where it stood, in place of one of its label set
pub set_twice : (head : List HeadSeries) (k : ℕ) (a b : HeadSeries) → slice_set (slice_set head k a) k b ≡ slice_set head k b
set_twice [] k a b = refl
set_twice (h ∷ hs) zero a b = refl
set_twice (h ∷ hs) (suc k) a b = ap (λ (xs : List HeadSeries). h ∷ xs) (set_twice hs k a b)

pub set_itself : (l : Labels) (head : List HeadSeries) (k : ℕ) (h : HeadSeries) → StandsIn l head k h → slice_set head k h ≡ head
set_itself l head k h st = ap (λ (x : HeadSeries). slice_set head k x) (sym (st.1 h)) ∙ (stands_at l head k st.0).keeps h

pub still_stands : (l : Labels) (head : List HeadSeries) (k : ℕ) (h x : HeadSeries) → StandsIn l head k h → x.labels ≡ h.labels → StandsIn l (slice_set head k x) k x
still_stands l head k h x st same =
    let sets : sets_of (slice_set head k x) ≡ sets_of head = map-set_same (λ (y : HeadSeries). y.labels) head k x h (same ∙ sym (ap (λ (y : HeadSeries). y.labels) (st.1 h))) in
    (same_place l 0 (slice_set head k x) head sets ∙ st.0, λ d. get_or-set_same head k x d (stands_at l head k st.0).below)

-- samples that were added to a series of the version's own, seen at the whole head
pub own_step : {V : Type 0} (slots new : List Slot) (k : ℕ) (floor : ℤ) (at : ℕ) (samples : List (ℤ × ℤ)) (added : Result V CommitError) (d : HeadSeries) → k < length slots → IsOwnGrown slots new k floor at samples added d →
    (l : Labels) → place_from l 0 (series_in_each slots) ≡ Some k → IsOutcome added (head_added_each floor (Ok (series_in_each slots)) at (pairs_with l samples)) (series_in_each new)
own_step slots new k floor at samples added d inside grew l is =
    let head : List HeadSeries = series_in_each slots in
    let here : k < length head = omega (arith, inside, length-each slots) in
    let made : series_in_each new ≡ slice_set head k grew.made = ap (λ (ss : List Slot). series_in_each ss) grew.stands ∙ map-set series_in slots k (Own grew.made) in
    subst (λ (hs : List HeadSeries). IsOutcome added (head_added_each floor (Ok head) at (pairs_with l samples)) hs) (sym made)
    (grew.step l head k (is, λ e. same_inside head k e d here))

pub own_labels : {V : Type 0} (slots new : List Slot) (k : ℕ) (floor : ℤ) (at : ℕ) (samples : List (ℤ × ℤ)) (added : Result V CommitError) (d : HeadSeries) → IsOwnGrown slots new k floor at samples added d →
    OnOk added (sets_of (series_in_each new) ≡ sets_of (series_in_each slots))
own_labels slots new k floor at samples added d grew =
    on_ok added (λ same. ap (λ (ss : List Slot). sets_of (series_in_each ss)) grew.stands ∙ labels_stay slots k grew.made d same) grew.labels

pub own_owners : {V : Type 0} (slots new : List Slot) (k : ℕ) (floor : ℤ) (at : ℕ) (samples : List (ℤ × ℤ)) (added : Result V CommitError) (d : HeadSeries) → IsOwnGrown slots new k floor at samples added d →
    OnOk added ((l : Labels) → place_from l 0 (series_in_each slots) ≡ Some k → AddsNoOwnBut l slots new)
own_owners slots new k floor at samples added d grew =
    let head : List HeadSeries = series_in_each slots in
    on_ok added
    (λ same l is p h all.
    let here : T (p (slice_index_or head k d).labels) = subst (λ (m : Labels). T (p m)) (like_series l head (slice_index_or head k d) ((stands_at l head k is).found d)) h in
    subst (λ (ss : List Slot). AllOwn p ss) (sym grew.stands)
    (AllOwn-set p slots k (Own grew.made) (subst (λ (m : Labels). T (p m)) (sym same) here) all))
    grew.labels
