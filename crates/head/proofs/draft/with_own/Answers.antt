use Rattle.std.proofs.Common.{◌≡◌, ◌<◌, ℕ, List, length, sym, ◌∙◌, ap, arith}
use Rattle.std.specs.Prelude.{slice_set}
use Rattle.std.specs.Ordering.{nat_cmp}
use Rattle.std.specs.BTreeMap.{BTreeMap, get}
use Rattle.std.proofs.lemmas.List.{length-set}
use Rattle.head.specs.Heads.{HeadSeries}
use Rattle.head.specs.Slots.{series_in_each, slots_from}
use Rattle.head.proofs.SlotLaws.{apart, written, none_in, all_shared, series_shared, none_left, place_inside, nothing_left, no_number}
use Rattle.head.proofs.draft.with_own.Goals as goal

pub set-requires : goal.set-requires
set-requires c =
    let own = get nat_cmp c.loop-place.own in
    let inside = place_inside (length c.args.list) own c.in-Some.place c.in-Some.series c.loop-place.invariant.inside c.in-Some.ensures.value in
    omega (arith, inside, c.loop-place.invariant.count)

pub loop-place-preserved : goal.loop-place-preserved
loop-place-preserved c =
    let own = get nat_cmp c.loop-place.own in
    let left = get nat_cmp c.pop_last.new.self in
    let k = c.in-Some.place in
    let made : List HeadSeries = c.loop-place.made in
    let h : HeadSeries = c.in-Some.series in
    let inside : k < length made = omega (arith, place_inside (length c.args.list) own k h c.loop-place.invariant.inside c.in-Some.ensures.value, c.loop-place.invariant.count) in
    let set_is : c.set.new.self ≡ slice_set made k h = c.in_ok-set.ensures.ok ∙ ap (λ (x : HeadSeries). slice_set made k x) c.in_ok-new.ensures.ok in
    record {
      same =
          ap (λ (hs : List HeadSeries). series_in_each (slots_from 0 hs left)) set_is
          ∙ written k made own left h inside c.in-Some.ensures.value c.in-Some.ensures.updates.1 (λ q ne. c.in-Some.ensures.updates.2 q (apart k q ne))
          ∙ c.loop-place.invariant.same;
      count = ap length set_is ∙ length-set made k h ∙ c.loop-place.invariant.count;
      inside = λ q low. none_left own left k (λ p ne. c.in-Some.ensures.updates.2 p (apart k p ne)) c.in-Some.ensures.updates.1 q (c.loop-place.invariant.inside q low);
    }

pub returns : goal.returns
returns c =
    let own : BTreeMap ℕ HeadSeries = c.loop-place.own in
    sym (series_shared c.loop-place.made)
    ∙ ap series_in_each (sym (all_shared 0 c.loop-place.made (get nat_cmp own) (none_in own (nothing_left own.entries (no_number (length own.entries) (λ l. c.in_default.ensures.variant.1 l))))))
    ∙ c.loop-place.invariant.same
