use Rattle.std.proofs.lemmas.Result.{err_from_is_err_and}
use Rattle.std.proofs.Common.{◌≡◌, ◌<◌, ◌∷◌, ◌++◌, ◌+◌, [], ℕ, ℤ, List, length, take, get_or, map, sym, ap, subst, ◌∙◌, arith, rules, to_z, of_z, w64}
use Rattle.std.proofs.lemmas.List.{take_more, take_all, map-append, length-take-le}
use Rattle.labels.specs.Labels.{Labels}
use Rattle.head.specs.Heads.{HeadSeries, IsSoundHead}
use Rattle.head.specs.Orders.{IsOrderOf}
use Rattle.head.specs.Resuming.{MayJoin}
use Rattle.head.specs.Slots.{Slot, Shared, Own, series_in, series_in_each}
use Rattle.head.proofs.Ordered.{ordered_none}
use Rattle.head.proofs.Resuming.{denies_more, each_joins, sound_joined}
use Rattle.head.proofs.SlotLaws.{length-each}
use Rattle.head.proofs.resume.series_of_saved.Goals as goal

pub loop-series-init : goal.loop-series-init
loop-series-init c =
    let none : series_in_each c.new-draft.result ≡ [] = ap (λ (ss : List Slot). series_in_each ss) (c.new-draft.ensures ∙ ap (λ (hs : List HeadSeries). map (λ (h : HeadSeries). Shared h) hs) c.in_ok-new.ensures) in
    record {
      same = none;
      ordered = subst (λ (hs : List HeadSeries). IsOrderOf c.in_ok-order.order hs) (sym none) (subst (λ (order : List (Labels × ℕ)). IsOrderOf order []) (sym c.in_ok-order.ensures) ordered_none);
      sound = tt;
    }

pub add_saved-requires : goal.add_saved-requires
add_saved-requires c =
    let hs : List HeadSeries = c.args.saved.now in
    let i : ℕ = c.loop-series.series-index in
    let inside : i < length hs = omega (arith, c.loop-series-test.true) in
    let count = ap length c.loop-series.invariant.same in
    record {
      ordered = c.loop-series.invariant.ordered;
      few = omega (arith, inside, c.requires, count, length-each c.loop-series.draft, length-take-le i hs (omega (arith, inside)));
    }

pub returns-in_err-add_saved-clause-refused : goal.returns-in_err-add_saved-clause-refused
returns-in_err-add_saved-clause-refused c =
    let floor = to_z w64 (of_z w64 c.args.floor) in
    let floor_is : floor ≡ c.args.floor = search rules in
    let hs : List HeadSeries = c.args.saved.now in
    let i : ℕ = c.loop-series.series-index in
    let h : HeadSeries = c.series-item.result in
    let inside : i < length hs = omega (arith, c.loop-series-test.true) in
    let f : IsSoundHead c.args.floor hs → MayJoin floor (series_in_each c.loop-series.draft) h =
    λ sound. subst (λ (x : HeadSeries). MayJoin floor (series_in_each c.loop-series.draft) x) (sym c.series-item.is)
    (subst (λ (xs : List HeadSeries). MayJoin floor xs (get_or hs i h)) (sym c.loop-series.invariant.same)
    (each_joins floor hs i h inside (subst (λ (z : ℤ). IsSoundHead z hs) (sym floor_is) sound))) in
    let p = err_from_is_err_and c.from_residual-in_err-add_saved.result c.from_residual-in_err-add_saved.ensures.1 in
    rw (p.1, p.2) (denies_more c.in_err-add_saved.field-0.0 (MayJoin floor (series_in_each c.loop-series.draft) h) (IsSoundHead c.args.floor hs) f c.in_err-add_saved.ensures.refused)

pub loop-series-preserved : goal.loop-series-preserved
loop-series-preserved c =
    let floor = to_z w64 (of_z w64 c.args.floor) in
    let hs : List HeadSeries = c.args.saved.now in
    let i : ℕ = c.loop-series.series-index in
    let h : HeadSeries = c.series-item.result in
    let inside : i < length hs = omega (arith, c.loop-series-test.true) in
    let more : take i hs ++ h ∷ [] ≡ take (i + 1) hs = sym (take_more hs i h inside ∙ ap (λ (x : HeadSeries). take i hs ++ x ∷ []) (sym c.series-item.is)) in
    record {
      same =
          ap (λ (ss : List Slot). series_in_each ss) c.in_ok-add_saved.ensures.added
          ∙ map-append series_in c.loop-series.draft (Own h ∷ [])
          ∙ ap (λ (xs : List HeadSeries). xs ++ h ∷ []) c.loop-series.invariant.same
          ∙ more;
      ordered = c.in_ok-add_saved.ensures.ordered;
      sound = subst (λ (xs : List HeadSeries). IsSoundHead floor xs) more
          (sound_joined floor (take i hs) h c.loop-series.invariant.sound
          (subst (λ (xs : List HeadSeries). MayJoin floor xs h) c.loop-series.invariant.same c.in_ok-add_saved.ensures.joins));
    }

pub returns-clause-same : goal.returns-clause-same
returns-clause-same c =
    c.in_ok-into_list.ensures.series ∙ c.loop-series.invariant.same ∙ take_all c.loop-series.series-index c.args.saved.now (omega (arith, c.loop-series-test.false))

pub returns-clause-ordered : goal.returns-clause-ordered
returns-clause-ordered c =
    subst (λ (hs : List HeadSeries). IsOrderOf c.loop-series.order hs) (sym c.in_ok-into_list.ensures.series) c.loop-series.invariant.ordered

pub returns-clause-sound : goal.returns-clause-sound
returns-clause-sound c =
    let floor_is : to_z w64 (of_z w64 c.args.floor) ≡ c.args.floor = search rules in
    subst (λ (z : ℤ). IsSoundHead z c.args.saved.now) floor_is
    (subst (λ (hs : List HeadSeries). IsSoundHead (to_z w64 (of_z w64 c.args.floor)) hs)
    (take_all c.loop-series.series-index c.args.saved.now (omega (arith, c.loop-series-test.false))) c.loop-series.invariant.sound)
