use Rattle.std.specs.Prelude.{◌<◌, ℕ, pos, List, [], ◌∷◌, ◌++◌, length}
use Rattle.std.proofs.Common.{sym, ◌∙◌, arith}
use Rattle.head.specs.Heads.{HeadSeries}
use Rattle.head.specs.Shown.{series_of}
use Rattle.head.proofs.Indexing.{front_more}
use Rattle.head.proofs.head.HeadView.list_all.Goals as goal

pub loop-place-preserved : goal.loop-place-preserved
loop-place-preserved c =
    let hs : List HeadSeries = series_of c.args.self.now in
    let k : ℕ = c.loop-place.place in
    let d : HeadSeries = record { labels = []; samples = []; newest = (pos 0, pos 0) } in
    let inside : k < length hs = omega (arith, c.loop-place-test.true, c.len-place-end.ensures) in
    c.in_ok-push.ensures.items
    ∙ (λ i. c.loop-place.invariant i ++ c.in_ok-row_at.ensures d i ∷ [])
    ∙ sym (front_more k hs d inside)
