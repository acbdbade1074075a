use Rattle.std.proofs.Common.{◌≡◌, ◌<◌, ◌≤◌, ◌+◌, ℕ, List, Option, Some, None, length, arith, ap, sym, ◌∙◌}
use Rattle.std.specs.Prelude.{◌-◌, ◌*◌, ℤ, slice_set, slice_index_or, IsSome, is_some}
use Rattle.std.specs.Option.{option_copied_mut}
use Rattle.std.specs.Ordering.{nat_cmp}
use Rattle.std.specs.BTreeMap.{BTreeMap, get}
use Rattle.head.specs.Heads.{HeadSeries}
use Rattle.head.specs.Slots.{Slot, Own, series_in, series_in_each, own_count, slot_at, slots_of, owned}
use Rattle.head.specs.Taking.{grown}
use Rattle.head.proofs.SlotLaws.{length-slots, series_begun, series_last, put_begun, put_last, counted_begun, counted_last, apart}
use Rattle.head.proofs.draft.Draft.grow.Goals as goal

is_held : {x : HeadSeries} {o : Option HeadSeries} → o ≡ Some x → IsSome o
is_held e = ap is_some e

pub index_mut-requires : goal.index_mut-requires
index_mut-requires c =
    let size = ap length c.self.view_is in
    omega (arith, c.requires, size, c.len-shared.ensures, c.if-place-shared.true, length-slots c.self.inside.last (get nat_cmp c.self.inside.own) c.self.inside.begun.items)

pub returns-then-place-shared-clause-grown : goal.returns-then-place-shared-clause-grown
returns-then-place-shared-clause-grown c = λ d.
    let last = c.self.inside.last in
    let begun = c.self.inside.begun.items in
    let own = get nat_cmp c.self.inside.own in
    let k = c.args.place in
    let size = ap length c.self.view_is in
    let shared = c.len-shared.ensures in
    let low : length last ≤ k = omega (arith, shared, c.if-place-shared.true) in
    let high : k < length last + length begun = omega (arith, c.requires, size, length-slots last own begun) in
    let e : HeadSeries = c.index_mut.result.now in
    let old : e ≡ slice_index_or (series_in_each c.args.self.now) k d =
    c.index_mut.ensures.value
    ∙ ap (λ n. slice_index_or begun (k - n) e) shared
    ∙ sym (series_begun last own begun k d e low high)
    ∙ ap (λ (slots : List Slot). slice_index_or (series_in_each slots) k d) c.self.view_is in
    let new : c.push.new.self ≡ grown c.args.sample (slice_index_or (series_in_each c.args.self.now) k d) = c.in_ok-push.ensures ∙ ap (grown c.args.sample) old in
    (λ i. slots_of last own (slice_set begun (k - shared i) (new i)))
    ∙ put_begun last own begun k (grown c.args.sample (slice_index_or (series_in_each c.args.self.now) k d)) low
    ∙ ap (λ (slots : List Slot). slice_set slots k (Own (grown c.args.sample (slice_index_or (series_in_each c.args.self.now) k d)))) c.self.view_is

pub returns-then-place-shared-clause-counted : goal.returns-then-place-shared-clause-counted
returns-then-place-shared-clause-counted c =
    let last = c.self.inside.last in
    let begun = c.self.inside.begun.items in
    let own = get nat_cmp c.self.inside.own in
    let k = c.args.place in
    let size = ap length c.self.view_is in
    let shared = c.len-shared.ensures in
    let low : length last ≤ k = omega (arith, shared, c.if-place-shared.true) in
    let high : k < length last + length begun = omega (arith, c.requires, size, length-slots last own begun) in
    let x : HeadSeries = c.push.new.self in
    let made = ap (λ (slots : List Slot). owned slots) ((λ i. slots_of last own (slice_set begun (k - shared i) x)) ∙ put_begun last own begun k x low) in
    let before = ap (λ (slots : List Slot). owned slots) c.self.view_is in
    omega (arith, made, before, counted_begun last own begun k x x low high)

-- a copy of a shared series stands in its place
placed : (last : List HeadSeries) (own new : ℕ → Option HeadSeries) (begun : List HeadSeries) (slots : List Slot) (k : ℕ) (s : ℤ × ℤ) (x d : HeadSeries) → slots_of last own begun ≡ slots → k < length last
    → own k ≡ None → x ≡ grown s (slice_index_or last k d) → new k ≡ Some x → ((q : ℕ) → (q ≡ k → ⊥) → new q ≡ own q)
    → slots_of last new begun ≡ slice_set slots k (Own (grown s (slice_index_or (series_in_each slots) k d)))
placed last own new begun slots k s x d is inside none made held others =
    let old : slice_index_or last k d ≡ slice_index_or (series_in_each slots) k d =
    sym (series_last last own begun k d d inside ∙ ap (λ o. series_in (slot_at (slice_index_or last k d) o)) none)
    ∙ ap (λ (ss : List Slot). slice_index_or (series_in_each ss) k d) is in
    put_last last own new begun k x inside held others
    ∙ (λ i. slice_set (is i) k (Own ((made ∙ ap (grown s) old) i)))

counted : (last : List HeadSeries) (own new : ℕ → Option HeadSeries) (begun : List HeadSeries) (slots : List Slot) (k copied : ℕ) (x : HeadSeries) → slots_of last own begun ≡ slots → k < length last
    → own k ≡ None → copied < 120 → new k ≡ Some x → ((q : ℕ) → (q ≡ k → ⊥) → new q ≡ own q) → copied + 119 * owned slots ≤ 119 * owned (slots_of last new begun)
counted last own new begun slots k copied x is inside none few held others =
    let made = ap (λ (ss : List Slot). owned ss) (put_last last own new begun k x inside held others) in
    let before = ap (λ (ss : List Slot). owned ss) is in
    let count = ap (λ o. own_count (slot_at (slice_index_or last k x) o)) none in
    omega (arith, made, before, counted_last last own begun k copied x x inside (omega (arith, count, few)))

pub returns-in-Some-clause-grown : goal.returns-in-Some-clause-grown
returns-in-Some-clause-grown c = λ d.
    let last = c.self.inside.last in
    let begun = c.self.inside.begun.items in
    let own = get nat_cmp c.self.inside.own in
    let new = get nat_cmp (c.get_mut.follows.lender c.push-in-Some.new.self) in
    let k = c.args.place in
    let inside : k < length last = omega (arith, c.len-shared.ensures, c.if-place-shared.false) in
    let held : own k ≡ Some c.in-Some.series.now = sym c.get_mut.ensures.value ∙ ap (λ o. option_copied_mut o) c.in-Some.is in
    let up = (c.get_mut.follows.holds c.push-in-Some.new.self).3 (is_held held) in
    let old : c.in-Some.series.now ≡ slice_index_or (series_in_each c.args.self.now) k d =
    sym (series_last last own begun k d d inside ∙ ap (λ o. series_in (slot_at (slice_index_or last k d) o)) held)
    ∙ ap (λ (slots : List Slot). slice_index_or (series_in_each slots) k d) c.self.view_is in
    let x : HeadSeries = grown c.args.sample (slice_index_or (series_in_each c.args.self.now) k d) in
    let now : new k ≡ Some x = up.1 ∙ ap Some (c.in_ok-push-2.ensures ∙ ap (grown c.args.sample) old) in
    put_last last own new begun k x inside now (λ q ne. up.2 q (apart k q ne))
    ∙ ap (λ (slots : List Slot). slice_set slots k (Own x)) c.self.view_is

pub returns-in-Some-clause-counted : goal.returns-in-Some-clause-counted
returns-in-Some-clause-counted c =
    let last = c.self.inside.last in
    let begun = c.self.inside.begun.items in
    let own = get nat_cmp c.self.inside.own in
    let new = get nat_cmp (c.get_mut.follows.lender c.push-in-Some.new.self) in
    let k = c.args.place in
    let inside : k < length last = omega (arith, c.len-shared.ensures, c.if-place-shared.false) in
    let held : own k ≡ Some c.in-Some.series.now = sym c.get_mut.ensures.value ∙ ap (λ o. option_copied_mut o) c.in-Some.is in
    let up = (c.get_mut.follows.holds c.push-in-Some.new.self).3 (is_held held) in
    let x : HeadSeries = c.push-in-Some.new.self in
    let made = ap (λ (slots : List Slot). owned slots) (put_last last own new begun k x inside up.1 (λ q ne. up.2 q (apart k q ne))) in
    let before = ap (λ (slots : List Slot). owned slots) c.self.view_is in
    let one = ap (λ o. own_count (slot_at (slice_index_or last k x) o)) held in
    omega (arith, made, before, counted_last last own begun k 0 x x inside (omega (arith, one)))

pub invariant_of-self-2 : goal.invariant_of-self-2
invariant_of-self-2 c =
    let k = c.args.place in
    let inside : k < c.self.inside.above = omega (arith, c.if-place-self.false) in
    let same = ap (λ (m : BTreeMap ℕ HeadSeries). get nat_cmp m) c.get_mut.follows.holds-at-none in (
      λ q low. c.in_ok-insert-2.ensures.updates.2 q (apart k q (λ e. omega (arith, e, low, inside))) ∙ ap (λ (f : ℕ → Option HeadSeries). f q) same ∙ c.self.invariant.0 q low,
      c.self.invariant.1,
      c.self.invariant.2,
    )

pub returns-then-place-self-clause-grown : goal.returns-then-place-self-clause-grown
returns-then-place-self-clause-grown c = λ d.
    let own = get nat_cmp c.self.inside.own in
    let k = c.args.place in
    placed c.self.inside.last own (get nat_cmp c.insert.new.self) c.self.inside.begun.items c.args.self.now k c.args.sample c.in_ok-series.series d c.self.view_is
    (omega (arith, c.len-shared.ensures, c.if-place-shared.false))
    (c.self.invariant.0 k (omega (arith, c.if-place-self.true)))
    (c.in_ok-series.ensures.grown d)
    c.in_ok-insert.ensures.updates.1
    (λ q ne. c.in_ok-insert.ensures.updates.2 q (apart k q ne))

pub returns-then-place-self-clause-counted : goal.returns-then-place-self-clause-counted
returns-then-place-self-clause-counted c =
    let own = get nat_cmp c.self.inside.own in
    let k = c.args.place in
    counted c.self.inside.last own (get nat_cmp c.insert.new.self) c.self.inside.begun.items c.args.self.now k c.in_ok-series.copied c.in_ok-series.series c.self.view_is
    (omega (arith, c.len-shared.ensures, c.if-place-shared.false))
    (c.self.invariant.0 k (omega (arith, c.if-place-self.true)))
    c.in_ok-series.ensures.few
    c.in_ok-insert.ensures.updates.1
    (λ q ne. c.in_ok-insert.ensures.updates.2 q (apart k q ne))

pub returns-clause-grown : goal.returns-clause-grown
returns-clause-grown c = λ d.
    let own = get nat_cmp c.self.inside.own in
    let k = c.args.place in
    let same = ap (λ (m : BTreeMap ℕ HeadSeries). get nat_cmp m) c.get_mut.follows.holds-at-none in
    let none : own k ≡ None = sym c.get_mut.ensures.value ∙ ap (λ o. option_copied_mut o) c.in_default.is in
    placed c.self.inside.last own (get nat_cmp c.insert-2.new.self) c.self.inside.begun.items c.args.self.now k c.args.sample c.in_ok-series-2.series d c.self.view_is
    (omega (arith, c.len-shared.ensures, c.if-place-shared.false))
    none
    (c.in_ok-series-2.ensures.grown d)
    c.in_ok-insert-2.ensures.updates.1
    (λ q ne. c.in_ok-insert-2.ensures.updates.2 q (apart k q ne) ∙ ap (λ (f : ℕ → Option HeadSeries). f q) same)

pub returns-clause-counted : goal.returns-clause-counted
returns-clause-counted c =
    let own = get nat_cmp c.self.inside.own in
    let k = c.args.place in
    let same = ap (λ (m : BTreeMap ℕ HeadSeries). get nat_cmp m) c.get_mut.follows.holds-at-none in
    let none : own k ≡ None = sym c.get_mut.ensures.value ∙ ap (λ o. option_copied_mut o) c.in_default.is in
    counted c.self.inside.last own (get nat_cmp c.insert-2.new.self) c.self.inside.begun.items c.args.self.now k c.in_ok-series-2.copied c.in_ok-series-2.series c.self.view_is
    (omega (arith, c.len-shared.ensures, c.if-place-shared.false))
    none
    c.in_ok-series-2.ensures.few
    c.in_ok-insert-2.ensures.updates.1
    (λ q ne. c.in_ok-insert-2.ensures.updates.2 q (apart k q ne) ∙ ap (λ (f : ℕ → Option HeadSeries). f q) same)
