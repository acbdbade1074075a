use Rattle.std.proofs.Common.{◌≡◌, ◌++◌, List, [], length, sym, ◌∙◌, ap, arith, append-nil}
use Rattle.std.specs.Vec.Iter.{into_iter_items}
use Rattle.std.specs.Ordering.{nat_cmp}
use Rattle.std.specs.BTreeMap.{get}
use Rattle.head.specs.Slots.{Slot, series_in_each}
use Rattle.head.proofs.SlotLaws.{length-slots, series_of_slots, nothing_left}
use Rattle.head.proofs.draft.Draft.into_list.Goals as goal

pub returns-in_err-list-clause-few : goal.returns-in_err-list-clause-few
returns-in_err-list-clause-few c =
    let size = ap length c.self.view_is in
    omega (arith, size, c.self.invariant.2, length-slots c.self.inside.last (get nat_cmp c.self.inside.own) c.self.inside.begun.items)

pub returns-in_err-new-clause-few : goal.returns-in_err-new-clause-few
returns-in_err-new-clause-few c =
    let size = ap length c.self.view_is in
    omega (arith, size, c.self.invariant.2, length-slots c.self.inside.last (get nat_cmp c.self.inside.own) c.self.inside.begun.items)

pub returns-in_err-push-clause-few : goal.returns-in_err-push-clause-few
returns-in_err-push-clause-few c =
    let size = ap length c.self.view_is in
    omega (arith, size, c.self.invariant.2, length-slots c.self.inside.last (get nat_cmp c.self.inside.own) c.self.inside.begun.items)

pub returns-clause-few : goal.returns-clause-few
returns-clause-few c =
    let size = ap length c.self.view_is in
    omega (arith, size, c.self.invariant.2, length-slots c.self.inside.last (get nat_cmp c.self.inside.own) c.self.inside.begun.items)

pub returns-clause-series : goal.returns-clause-series
returns-clause-series c =
    let at = c.loop-series in
    let last = c.self.inside.last in
    let own = get nat_cmp c.self.inside.own in
    let begun = c.self.inside.begun.items in
    let empty : into_iter_items at.series-iterator ≡ [] = nothing_left _ (sym at.invariant.left ∙ c.in-None.ensures.steps.0) in
    let taken : at.yielded ≡ begun = sym (append-nil at.yielded) ∙ rw empty at at.invariant.rest ∙ c.into_iter-series-iterator.ensures.into_iter_gives.0 in
    at.invariant.same
    ∙ (λ i. c.in_ok-list.ensures i ++ taken i)
    ∙ sym (series_of_slots last own begun)
    ∙ ap (λ (slots : List Slot). series_in_each slots) c.self.view_is
