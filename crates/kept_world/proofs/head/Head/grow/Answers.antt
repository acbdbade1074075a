use Rattle.std.proofs.Common.{◌≡◌, sym, subst, ap, ◌∙◌, Some, get_or, List}
use Rattle.std.proofs.lemmas.Option.{get_or_from_slice_get}
use Rattle.labels.specs.Labels.{Labels}
use Rattle.kept_world.specs.States.{HeadSeries, grown}
use Rattle.kept_world.specs.Sound.{IsPlaced, Took, replaced}
use Rattle.kept_world.proofs.Apart.{grown_labels, sets_set}
use Rattle.kept_world.proofs.head.Head.grow.Goals as goal

pub invariant_of-result : goal.invariant_of-result
invariant_of-result c =
    let old : HeadSeries = c.index_mut.result.now in
    let new : HeadSeries = c.grow.new.self in
    let step : grown c.args.number c.args.sample old ≡ Some new =
    subst (λ b. Took b (grown c.args.number c.args.sample old) new) c.if-not-branch.false c.in_ok-grow.ensures in
    subst (λ (ls : List Labels). IsPlaced ls c.self.inside.places)
    (sym (sets_set c.self.inside.series.items c.args.place old new c.index_mut.ensures.value (grown_labels c.args.number c.args.sample old new step)))
    c.self.invariant

pub returns : goal.returns
returns c = λ e h.
    let old : HeadSeries = c.index_mut.result.now in
    let new : HeadSeries = c.grow.new.self in
    let head : List HeadSeries = c.self.inside.series.items in
    let step : grown c.args.number c.args.sample old ≡ Some new =
    subst (λ b. Took b (grown c.args.number c.args.sample old) new) c.if-not-branch.false c.in_ok-grow.ensures in
    let same : old ≡ e =
    c.index_mut.ensures.value ∙ ap (λ (hs : List HeadSeries). get_or hs c.args.place old) c.self.view_is
    ∙ get_or_from_slice_get c.args.self c.args.place e old h in
    sym (ap (λ (x : HeadSeries). replaced c.args.place (grown c.args.number c.args.sample x) c.args.self) (sym same)
    ∙ ap (λ r. replaced c.args.place r c.args.self) step
    ∙ ap (replaced c.args.place (Some new)) (sym c.self.view_is))
