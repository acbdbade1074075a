use Rattle.std.specs.Prelude.{◌≡◌, [], ◌++◌, map}
use Rattle.std.proofs.Common.{◌∙◌, ap, rules, arith, take, to_z, of_z, w64}
use Rattle.std.proofs.lemmas.List.{take_all}
use Rattle.std.specs.Arc.{arc_value}
use Rattle.head.specs.Heads.{HeadSeries}
use Rattle.labels.specs.Parts.{within}
use Rattle.head.specs.Chunks.{joined_chunks}
use Rattle.head.proofs.Chunks.{within-joined_chunks}
use Rattle.head.proofs.series.Series.samples_within.Goals as goal

pub returns : goal.returns
returns c =
    let from_is : to_z w64 (of_z w64 c.args.from) ≡ c.args.from = search rules in
    let to_is : to_z w64 (of_z w64 c.args.to) ≡ c.args.to = search rules in
    let xs = c.chunks-chunk-items.result.now in
    let all : map (λ a. arc_value a) (take c.loop-chunk.chunk-index xs) ≡ c.self.inside.sealed =
    (λ i. map (λ a. arc_value a) (take_all c.loop-chunk.chunk-index xs (omega arith) i)) ∙ c.chunks-chunk-items.ensures in
    let before : c.loop-chunk.found.items ≡ within c.args.from c.args.to (joined_chunks c.self.inside.sealed []) =
    c.loop-chunk.invariant ∙ (λ i. within (from_is i) (to_is i) (joined_chunks (all i) [])) in
    let after : c.push_within-2.new.found.items ≡ c.loop-chunk.found.items ++ within c.args.from c.args.to c.self.inside.tail.items =
    c.in_ok-push_within-2.ensures ∙ (λ i. c.loop-chunk.found.items ++ within (from_is i) (to_is i) (c.as_slice.ensures.value i)) in
    after
    ∙ ap (λ xs. xs ++ within c.args.from c.args.to c.self.inside.tail.items) before
    ∙ within-joined_chunks c.args.from c.args.to c.self.inside.sealed c.self.inside.tail.items
    ∙ ap (λ (h : HeadSeries). within c.args.from c.args.to h.samples) c.self.view_is
