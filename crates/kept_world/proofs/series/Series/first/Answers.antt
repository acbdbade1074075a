use Rattle.std.proofs.Common.{◌≡◌, sym, subst, ap, ◌∙◌, List, ℤ, map, true}
use Rattle.labels.proofs.Times.{T_of}
use Rattle.kept_walk.specs.Kept.{Series}
use Rattle.kept_world.specs.States.{Born}
use Rattle.kept_world.specs.Sound.{IsSoundSeries, rises, first_series}
use Rattle.kept_world.proofs.Rising.{sound_first}
use Rattle.kept_world.proofs.series.Series.first.Goals as goal

pub invariant_of-result : goal.invariant_of-result
invariant_of-result c =
    let r = c.into_parts-labels.result in
    let e : Series = record { labels = r.0; newest = r.1; samples = r.2.items } in
    let up : rises r.1.0 r.2.items ≡ true =
    ap (rises r.1.0) (sym c.deref.ensures.value) ∙ sym c.are_rising.ensures ∙ c.if-not-are_rising.false in
    let is : c.in_ok-samples.samples.items ≡ map (λ (x : ℤ × ℤ). (0, x)) r.2.items =
    c.in_ok-samples.ensures ∙ ap (map (λ (x : ℤ × ℤ). (0, x))) c.deref-2.ensures.value in
    subst (λ (ks : List Born). IsSoundSeries (record (first_series e) { samples = ks })) (sym is) (sound_first e (T_of _ up))
