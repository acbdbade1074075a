use Rattle.std.proofs.Common.{◌≡◌, ◌<◌, ◌≤◌, ◌+◌, ℕ, List, Option, Some, length, arith, ap, sym, ◌∙◌, subst, rules, to_z, of_z, w64}
use Rattle.std.specs.Prelude.{◌-◌, slice_set, slice_index_or, IsSome, is_some, OnOk}
use Rattle.std.specs.Option.{option_copied_mut}
use Rattle.std.specs.Ordering.{nat_cmp}
use Rattle.std.specs.BTreeMap.{BTreeMap, get}
use Rattle.head.specs.Heads.{HeadSeries}
use Rattle.head.specs.OwnSteps.{TakesEach}
use Rattle.head.specs.Slots.{Slot, Own, series_in, series_in_each, own_count, slot_at, slots_of, owned}
use Rattle.head.proofs.SlotLaws.{length-slots, series_begun, series_last, put_begun, put_last, counted_begun, counted_last, apart}
use Rattle.head.proofs.draft.Draft.add_own.Goals as goal

is_held : {x : HeadSeries} {o : Option HeadSeries} → o ≡ Some x → IsSome o
is_held e = ap is_some e

pub index_mut-series-requires : goal.index_mut-series-requires
index_mut-series-requires c =
    let size = ap length c.self.view_is in
    omega (arith, c.requires.inside, size, c.len-shared.ensures, c.if-place-shared.true, length-slots c.self.inside.last (get nat_cmp c.self.inside.own) c.self.inside.begun.items)

pub returns-then-place-shared-clause-some : goal.returns-then-place-shared-clause-some
returns-then-place-shared-clause-some c = λ d.
    let last = c.self.inside.last in
    let begun = c.self.inside.begun.items in
    let own = get nat_cmp c.self.inside.own in
    let k = c.args.place in
    let size = ap length c.self.view_is in
    let shared = c.len-shared.ensures in
    let low : length last ≤ k = omega (arith, shared, c.if-place-shared.true) in
    let high : k < length last + length begun = omega (arith, c.requires.inside, size, length-slots last own begun) in
    let e : HeadSeries = c.index_mut-series.result.now in
    let old : e ≡ slice_index_or (series_in_each c.args.self.now) k d =
    c.index_mut-series.ensures.value
    ∙ ap (λ n. slice_index_or begun (k - n) e) shared
    ∙ sym (series_begun last own begun k d e low high)
    ∙ ap (λ (slots : List Slot). slice_index_or (series_in_each slots) k d) c.self.view_is in
    let x : HeadSeries = c.add_to_each.new.series in
    let same_floor : to_z w64 (of_z w64 c.args.floor) ≡ c.args.floor = search rules in
    record {
      made = x;
      stands = (λ i. slots_of last own (slice_set begun (k - shared i) x)) ∙ put_begun last own begun k x low ∙ ap (λ (slots : List Slot). slice_set slots k (Own x)) c.self.view_is;
      labels = subst (λ (h : HeadSeries). OnOk c.add_to_each.result (x.labels ≡ h.labels)) old c.add_to_each.ensures.labels;
      step = subst (λ f. TakesEach f c.args.at c.args.samples.now c.add_to_each.result (slice_index_or (series_in_each c.args.self.now) k d) x) same_floor (subst (λ (h : HeadSeries). TakesEach (to_z w64 (of_z w64 c.args.floor)) c.args.at c.args.samples.now c.add_to_each.result h x) old c.add_to_each.ensures.step);
    }

pub returns-then-place-shared-clause-counted : goal.returns-then-place-shared-clause-counted
returns-then-place-shared-clause-counted c =
    let last = c.self.inside.last in
    let begun = c.self.inside.begun.items in
    let own = get nat_cmp c.self.inside.own in
    let k = c.args.place in
    let size = ap length c.self.view_is in
    let shared = c.len-shared.ensures in
    let low : length last ≤ k = omega (arith, shared, c.if-place-shared.true) in
    let high : k < length last + length begun = omega (arith, c.requires.inside, size, length-slots last own begun) in
    let x : HeadSeries = c.add_to_each.new.series in
    let made = ap (λ (slots : List Slot). owned slots) ((λ i. slots_of last own (slice_set begun (k - shared i) x)) ∙ put_begun last own begun k x low) in
    let before = ap (λ (slots : List Slot). owned slots) c.self.view_is in
    omega (arith, made, before, counted_begun last own begun k x x low high)

pub returns-in-Some-clause-some : goal.returns-in-Some-clause-some
returns-in-Some-clause-some c = λ d.
    let last = c.self.inside.last in
    let begun = c.self.inside.begun.items in
    let own = get nat_cmp c.self.inside.own in
    let new = get nat_cmp (c.get_mut.follows.lender c.add_to_each-in-Some.new.series) in
    let k = c.args.place in
    let inside : k < length last = omega (arith, c.len-shared.ensures, c.if-place-shared.false) in
    let held : own k ≡ Some c.in-Some.series.now = sym c.get_mut.ensures.value ∙ ap (λ o. option_copied_mut o) c.in-Some.is in
    let up = (c.get_mut.follows.holds c.add_to_each-in-Some.new.series).3 (is_held held) in
    let old : c.in-Some.series.now ≡ slice_index_or (series_in_each c.args.self.now) k d =
    sym (series_last last own begun k d d inside ∙ ap (λ o. series_in (slot_at (slice_index_or last k d) o)) held)
    ∙ ap (λ (slots : List Slot). slice_index_or (series_in_each slots) k d) c.self.view_is in
    let x : HeadSeries = c.add_to_each-in-Some.new.series in
    let same_floor : to_z w64 (of_z w64 c.args.floor) ≡ c.args.floor = search rules in
    record {
      made = x;
      stands = put_last last own new begun k x inside up.1 (λ q ne. up.2 q (apart k q ne)) ∙ ap (λ (slots : List Slot). slice_set slots k (Own x)) c.self.view_is;
      labels = subst (λ (h : HeadSeries). OnOk c.add_to_each-in-Some.result (x.labels ≡ h.labels)) old c.add_to_each-in-Some.ensures.labels;
      step = subst (λ f. TakesEach f c.args.at c.args.samples.now c.add_to_each-in-Some.result (slice_index_or (series_in_each c.args.self.now) k d) x) same_floor (subst (λ (h : HeadSeries). TakesEach (to_z w64 (of_z w64 c.args.floor)) c.args.at c.args.samples.now c.add_to_each-in-Some.result h x) old c.add_to_each-in-Some.ensures.step);
    }

pub returns-in-Some-clause-counted : goal.returns-in-Some-clause-counted
returns-in-Some-clause-counted c =
    let last = c.self.inside.last in
    let begun = c.self.inside.begun.items in
    let own = get nat_cmp c.self.inside.own in
    let new = get nat_cmp (c.get_mut.follows.lender c.add_to_each-in-Some.new.series) in
    let k = c.args.place in
    let inside : k < length last = omega (arith, c.len-shared.ensures, c.if-place-shared.false) in
    let held : own k ≡ Some c.in-Some.series.now = sym c.get_mut.ensures.value ∙ ap (λ o. option_copied_mut o) c.in-Some.is in
    let up = (c.get_mut.follows.holds c.add_to_each-in-Some.new.series).3 (is_held held) in
    let x : HeadSeries = c.add_to_each-in-Some.new.series in
    let made = ap (λ (slots : List Slot). owned slots) (put_last last own new begun k x inside up.1 (λ q ne. up.2 q (apart k q ne))) in
    let before = ap (λ (slots : List Slot). owned slots) c.self.view_is in
    let one = ap (λ o. own_count (slot_at (slice_index_or last k x) o)) held in
    omega (arith, made, before, counted_last last own begun k 0 x x inside (omega (arith, one)))

pub returns-clause-none : goal.returns-clause-none
returns-clause-none c =
    ap (λ (m : BTreeMap ℕ HeadSeries). slots_of c.self.inside.last (get nat_cmp m) c.self.inside.begun.items) c.get_mut.follows.holds-at-none ∙ c.self.view_is
