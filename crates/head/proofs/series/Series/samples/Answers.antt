use Rattle.std.specs.Prelude.{◌≡◌, [], ◌++◌, map, ℤ, List}
use Rattle.std.specs.List.{flat_map}
use Rattle.std.proofs.Common.{◌∙◌, ap, arith, take, append-nil}
use Rattle.std.proofs.lemmas.List.{take_all}
use Rattle.std.specs.Arc.{arc_value}
use Rattle.head.specs.Heads.{HeadSeries}
use Rattle.head.specs.Chunks.{joined_chunks}
use Rattle.head.proofs.series.Series.samples.Goals as goal

pub returns : goal.returns
returns c =
    let xs = c.chunks-chunk-items.result.now in
    let all : map (λ a. arc_value a) (take c.loop-chunk.chunk-index xs) ≡ c.self.inside.sealed =
    (λ i. map (λ a. arc_value a) (take_all c.loop-chunk.chunk-index xs (omega arith) i)) ∙ c.chunks-chunk-items.ensures in
    let before = c.loop-chunk.invariant ∙ (λ i. joined_chunks (all i) [])
    ∙ append-nil (flat_map (λ (samples : List (ℤ × ℤ)). samples) c.self.inside.sealed) in
    c.in_ok-extend_from_slice.ensures.items
    ∙ (λ i. before i ++ c.as_slice.ensures.value i)
    ∙ ap (λ (h : HeadSeries). h.samples) c.self.view_is
