use Rattle.std.proofs.Common.{◌≡◌, ◌<◌, ◌≤◌, ◌+◌, List, Some, None, length, sym, ◌∙◌, ap, arith}
use Rattle.std.specs.Prelude.{◌-◌, slice_index_or}
use Rattle.std.specs.Option.{option_copied}
use Rattle.std.specs.Arc.{arc_value}
use Rattle.std.specs.Ordering.{nat_cmp}
use Rattle.std.specs.BTreeMap.{get}
use Rattle.head.specs.Heads.{HeadSeries}
use Rattle.head.specs.Slots.{Slot, series_in, series_in_each, slot_at}
use Rattle.head.proofs.SlotLaws.{length-slots, series_last, series_begun}
use Rattle.head.proofs.draft.Draft.series.Goals as goal

pub index-requires : goal.index-requires
index-requires c =
    let size = ap length c.self.view_is in
    omega (arith, c.requires, size, c.len-shared.ensures, c.if-place-shared.true, length-slots c.self.inside.last (get nat_cmp c.self.inside.own) c.self.inside.begun.items)

pub returns-then-place-shared : goal.returns-then-place-shared
returns-then-place-shared c = λ d.
    let last = c.self.inside.last in
    let begun = c.self.inside.begun.items in
    let own = get nat_cmp c.self.inside.own in
    let k = c.args.place in
    let size = ap length c.self.view_is in
    let shared = c.len-shared.ensures in
    let low : length last ≤ k = omega (arith, shared, c.if-place-shared.true) in
    let high : k < length last + length begun = omega (arith, c.requires, size, length-slots last own begun) in
    c.index.ensures
    ∙ ap (λ n. slice_index_or begun (k - n) c.index.result.now) shared
    ∙ sym (series_begun last own begun k d c.index.result.now low high)
    ∙ ap (λ (slots : List Slot). slice_index_or (series_in_each slots) k d) c.self.view_is

pub returns-in-Some : goal.returns-in-Some
returns-in-Some c = λ d.
    let last = c.self.inside.last in
    let begun = c.self.inside.begun.items in
    let own = get nat_cmp c.self.inside.own in
    let k = c.args.place in
    let inside : k < length last = omega (arith, c.len-shared.ensures, c.if-place-shared.false) in
    let held : own k ≡ Some c.in-Some.series.now = sym c.get.ensures.value ∙ ap (λ o. option_copied o) c.in-Some.is in
    sym (series_last last own begun k d d inside ∙ ap (λ o. series_in (slot_at (slice_index_or last k d) o)) held)
    ∙ ap (λ (slots : List Slot). slice_index_or (series_in_each slots) k d) c.self.view_is

pub returns-then-place-self : goal.returns-then-place-self
returns-then-place-self c = λ d.
    let last = c.self.inside.last in
    let begun = c.self.inside.begun.items in
    let own = get nat_cmp c.self.inside.own in
    let k = c.args.place in
    let inside : k < length last = omega (arith, c.len-shared.ensures, c.if-place-shared.false) in
    let held : own k ≡ None = c.self.invariant.0 k (omega (arith, c.if-place-self.true)) in
    let e : HeadSeries = arc_value c.at.result.now in
    c.deref.ensures ∙ c.at.ensures
    ∙ sym (series_last last own begun k d e inside ∙ ap (λ o. series_in (slot_at (slice_index_or last k e) o)) held)
    ∙ ap (λ (slots : List Slot). slice_index_or (series_in_each slots) k d) c.self.view_is

pub returns-in-None : goal.returns-in-None
returns-in-None c = λ d.
    let last = c.self.inside.last in
    let begun = c.self.inside.begun.items in
    let own = get nat_cmp c.self.inside.own in
    let k = c.args.place in
    let inside : k < length last = omega (arith, c.len-shared.ensures, c.if-place-shared.false) in
    let held : own k ≡ None = sym c.get.ensures.value ∙ ap (λ o. option_copied o) c.in-None.is in
    let e : HeadSeries = arc_value c.at-in-None.result.now in
    c.deref-in-None.ensures ∙ c.at-in-None.ensures
    ∙ sym (series_last last own begun k d e inside ∙ ap (λ o. series_in (slot_at (slice_index_or last k e) o)) held)
    ∙ ap (λ (slots : List Slot). slice_index_or (series_in_each slots) k d) c.self.view_is
