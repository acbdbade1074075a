use Rattle.std.proofs.Common.{◌≡◌, ◌<◌, ◌∷◌, ◌++◌, [], true, false, ℕ, ℤ, List, length, take, get_or, map, sym, ap, subst, ◌∙◌, arith, rules, to_z, of_z, w64}
use Rattle.std.specs.Prelude.{int_lt, pos, ◌-ℤ◌}
use Rattle.std.specs.Arc.{arc_value}
use Rattle.std.proofs.lemmas.List.{take_more, take_all, map-append, length-take-le}
use Rattle.labels.specs.Labels.{Labels}
use Rattle.head.specs.Heads.{HeadSeries}
use Rattle.head.specs.Orders.{IsOrderOf}
use Rattle.head.specs.Removing.{series_kept, from_on, series_less, head_cut}
use Rattle.head.specs.Slots.{Slot, Shared, Own, series_in, series_in_each}
use Rattle.head.specs.Taking.{place_from}
use Rattle.head.proofs.Leaving.{head_cut-left, head_cut-stays, length-head_cut, sound_place, series_left}
use Rattle.head.proofs.Ordered.{ordered_none, absent_in_cut}
use Rattle.head.proofs.SlotLaws.{length-each}
use Rattle.head.proofs.cut.series_from.Goals as goal

pub loop-place-init : goal.loop-place-init
loop-place-init c =
    let none : series_in_each c.new-draft.result ≡ [] = ap (λ (ss : List Slot). series_in_each ss) (c.new-draft.ensures ∙ ap (λ (hs : List HeadSeries). map (λ (h : HeadSeries). Shared h) hs) c.in_ok-new.ensures) in
    record {
      stay = none;
      ordered = subst (λ (hs : List HeadSeries). IsOrderOf c.in_ok-order.order hs) (sym none) (subst (λ (order : List (Labels × ℕ)). IsOrderOf order []) (sym c.in_ok-order.ensures) ordered_none);
    }

pub loop-place-preserved-then-t-time : goal.loop-place-preserved-then-t-time
loop-place-preserved-then-t-time c =
    let time = to_z w64 (of_z w64 c.args.time) in
    let hs : List HeadSeries = c.args.head.now in
    let i = c.loop-place.place in
    let d : HeadSeries = arc_value c.at-series.result.now in
    let h : HeadSeries = get_or hs i d in
    let inside : i < length hs = omega (arith, c.loop-place-test.true, c.len-place-end.ensures) in
    let time_of : c.t.result ≡ h.newest.0 = c.t.ensures ∙ ap (λ (s : ℤ × ℤ). s.0) (c.newest.ensures ∙ ap (λ (s : HeadSeries). s.newest) (c.deref.ensures ∙ c.at-series.ensures)) in
    let t_is : to_z w64 (of_z w64 c.t.result) ≡ c.t.result = search rules in
    let low : int_lt h.newest.0 time ≡ true = ap (λ t. int_lt t time) (sym (t_is ∙ time_of)) ∙ c.if-t-time.true in
    record {
      stay = c.loop-place.invariant.stay ∙ sym (head_cut-left time (take i hs) h low) ∙ ap (head_cut time) (sym (take_more hs i d inside));
      ordered = c.loop-place.invariant.ordered;
    }

pub begin-requires : goal.begin-requires
begin-requires c =
    let time = to_z w64 (of_z w64 c.args.time) in
    let hs : List HeadSeries = c.args.head.now in
    let i = c.loop-place.place in
    let d : HeadSeries = arc_value c.at-series.result.now in
    let inside : i < length hs = omega (arith, c.loop-place-test.true, c.len-place-end.ensures) in
    let labels_are : c.in_ok-left.left.labels ≡ (get_or hs i d).labels = ap (λ (s : HeadSeries). s.labels) c.in_ok-left.ensures ∙ ap (λ (s : HeadSeries). s.labels) (c.deref-in-loop-place.ensures ∙ c.at-series.ensures) in
    let stay = c.loop-place.invariant.stay in
    let count = ap length stay in
    record {
      ordered = c.loop-place.invariant.ordered;
      absent = (λ j. place_from (labels_are j) 0 (stay j)) ∙ absent_in_cut c.args.floor time hs i d c.requires.sound inside;
      few = omega (arith, inside, c.requires.few, count, length-each c.loop-place.draft, length-head_cut time (take i hs), length-take-le i hs (omega (arith, inside)));
    }

pub loop-place-preserved : goal.loop-place-preserved
loop-place-preserved c =
    let time = to_z w64 (of_z w64 c.args.time) in
    let hs : List HeadSeries = c.args.head.now in
    let i = c.loop-place.place in
    let d : HeadSeries = arc_value c.at-series.result.now in
    let h : HeadSeries = get_or hs i d in
    let inside : i < length hs = omega (arith, c.loop-place-test.true, c.len-place-end.ensures) in
    let time_of : c.t.result ≡ h.newest.0 = c.t.ensures ∙ ap (λ (s : ℤ × ℤ). s.0) (c.newest.ensures ∙ ap (λ (s : HeadSeries). s.newest) (c.deref.ensures ∙ c.at-series.ensures)) in
    let t_is : to_z w64 (of_z w64 c.t.result) ≡ c.t.result = search rules in
    let high : int_lt h.newest.0 time ≡ false = ap (λ t. int_lt t time) (sym (t_is ∙ time_of)) ∙ c.if-t-time.false in
    let floor_is : to_z w64 (of_z w64 c.args.floor) ≡ c.args.floor = search rules in
    let last_is : to_z w64 (of_z w64 (time -ℤ pos 1)) ≡ time -ℤ pos 1 = search rules in
    let left_is : c.in_ok-left.left ≡ series_kept (from_on time) h =
    c.in_ok-left.ensures ∙ (λ j. series_less (floor_is j) (last_is j) ((c.deref-in-loop-place.ensures ∙ c.at-series.ensures) j)) ∙ series_left c.args.floor time h (sound_place c.args.floor hs i d inside c.requires.sound) in
    record {
      stay =
          ap (λ (ss : List Slot). series_in_each ss) c.in_ok-begin.ensures.begun
          ∙ map-append series_in c.loop-place.draft (Own c.in_ok-left.left ∷ [])
          ∙ (λ j. c.loop-place.invariant.stay j ++ left_is j ∷ [])
          ∙ sym (head_cut-stays time (take i hs) h high)
          ∙ ap (head_cut time) (sym (take_more hs i d inside));
      ordered = c.in_ok-begin.ensures.ordered;
    }

pub returns-clause-stay : goal.returns-clause-stay
returns-clause-stay c =
    let time_is : to_z w64 (of_z w64 c.args.time) ≡ c.args.time = search rules in
    let all : take c.loop-place.place c.args.head.now ≡ c.args.head.now = take_all c.loop-place.place c.args.head.now (omega (arith, c.loop-place-test.false, c.len-place-end.ensures)) in
    c.in_ok-into_list.ensures.series ∙ c.loop-place.invariant.stay ∙ (λ i. head_cut (time_is i) (all i))
