use Rattle.std.proofs.Common.{◌≡◌, ◌+◌, ℕ, List, [], ◌∷◌, ◌++◌, length, take, get_or, subst, sym, ap, ◌∙◌, arith}
use Rattle.std.specs.Arc.{arc_value}
use Rattle.labels.specs.Parts.{Part}
use Rattle.head.specs.Heads.{HeadSeries, head_part}
use Rattle.head.specs.Index.{PairLists, IsIndexOf}
use Rattle.head.specs.Shown.{series_of}
use Rattle.head.proofs.Indexing.{index_of_front, front_more, taken_all}
use Rattle.head.proofs.head.HeadView.index_of.Goals as goal

pub loop-place-init : goal.loop-place-init
loop-place-init c =
    let size : c.len-place.result ≡ length (series_of c.args.self.now) = c.len-place.ensures in
    subst (λ (lists : PairLists). IsIndexOf lists (head_part (take c.len-place.result c.args.series.now))) (sym c.in_ok-index.ensures)
    (index_of_front c.args.self.now.index (series_of c.args.self.now) c.args.series.now c.len-place.result size c.requires.extended c.args.self.now.indexed)

pub loop-place-preserved : goal.loop-place-preserved
loop-place-preserved c =
    let hs : List HeadSeries = c.args.series.now in
    let k : ℕ = c.loop-place.place in
    let d : HeadSeries = arc_value c.at.result.now in
    let number : c.new-reference.result ≡ k + 1 = c.new-reference.ensures in
    let labels = c.labels.ensures ∙ ap (λ (h : HeadSeries). h.labels) (c.deref.ensures ∙ c.at.ensures) in
    subst (λ (part : Part). IsIndexOf c.add.new.self part)
    ((λ i. head_part (take k hs) ++ (number i, (labels i, (get_or hs k d).samples)) ∷ [])
    ∙ sym (front_more k hs d (omega (arith, c.loop-place-test.true, c.len-place-end.ensures))))
    (c.in_ok-add.ensures (head_part (take k hs)) (get_or hs k d).samples c.loop-place.invariant)

pub returns : goal.returns
returns c =
    subst (λ (hs : List HeadSeries). IsIndexOf c.loop-place.index (head_part hs))
    (taken_all c.loop-place.place c.args.series.now (omega (arith, c.loop-place-test.false, c.len-place-end.ensures)))
    c.loop-place.invariant
