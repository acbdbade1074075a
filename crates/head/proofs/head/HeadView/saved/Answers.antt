use Rattle.std.proofs.Common.{◌<◌, ◌∷◌, ◌++◌, [], ℕ, List, length, sym, ap, ◌∙◌, arith}
use Rattle.std.specs.Arc.{arc_value}
use Rattle.std.proofs.lemmas.List.{take_more, take_all}
use Rattle.head.specs.Heads.{HeadSeries}
use Rattle.head.specs.Shown.{series_of}
use Rattle.head.proofs.head.HeadView.saved.Goals as goal

pub loop-place-preserved : goal.loop-place-preserved
loop-place-preserved c =
    let hs : List HeadSeries = series_of c.args.self.now in
    let k : ℕ = c.loop-place.place in
    let d : HeadSeries = arc_value c.at.result.now in
    let inside : k < length hs = omega (arith, c.loop-place-test.true, c.len-place-end.ensures) in
    c.in_ok-push.ensures.items
    ∙ (λ i. c.loop-place.invariant i ++ (c.in_ok-saved.ensures ∙ c.deref.ensures ∙ c.at.ensures) i ∷ [])
    ∙ sym (take_more hs k d inside)

pub returns-clause-all : goal.returns-clause-all
returns-clause-all c =
    c.loop-place.invariant ∙ take_all c.loop-place.place (series_of c.args.self.now) (omega (arith, c.loop-place-test.false, c.len-place-end.ensures))

pub returns-clause-few : goal.returns-clause-few
returns-clause-few c =
    let all = c.loop-place.invariant ∙ take_all c.loop-place.place (series_of c.args.self.now) (omega (arith, c.loop-place-test.false, c.len-place-end.ensures)) in
    omega (arith, ap length all, c.args.self.now.few)
