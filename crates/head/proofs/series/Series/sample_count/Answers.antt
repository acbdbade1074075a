use Rattle.std.proofs.Common.{◌≡◌, length, ap, sym, ◌∙◌, rules, arith}
use Rattle.std.proofs.lemmas.List.{length-map}
use Rattle.std.specs.Arc.{arc_value}
use Rattle.head.specs.Heads.{HeadSeries}
use Rattle.head.proofs.Chunks.{length-joined_chunks, few_in, few_told}
use Rattle.head.proofs.series.Series.sample_count.Goals as goal

pub overflow_mul-result : goal.overflow_mul-result
overflow_mul-result c =
    let count = ap (λ (h : HeadSeries). length h.samples) (sym c.self.view_is) ∙ length-joined_chunks c.self.inside.sealed c.self.inside.tail.items c.self.invariant.full in
    let sealed = sym (length-map c.chunks.result.now (λ a. arc_value a)) ∙ ap length c.chunks.ensures in
    let few = few_in (length c.chunks.result.now) _ _ (length c.args.self.now.samples) count sealed (sym c.is_full.ensures ∙ c.if-is_full.false) in
    omega arith

pub overflow_add-result : goal.overflow_add-result
overflow_add-result c =
    let count = ap (λ (h : HeadSeries). length h.samples) (sym c.self.view_is) ∙ length-joined_chunks c.self.inside.sealed c.self.inside.tail.items c.self.invariant.full in
    let sealed = sym (length-map c.chunks.result.now (λ a. arc_value a)) ∙ ap length c.chunks.ensures in
    let last : c.len.result ≡ length c.self.inside.tail.items = search rules in
    let few = few_in (length c.chunks.result.now) _ _ (length c.args.self.now.samples) count sealed (sym c.is_full.ensures ∙ c.if-is_full.false) in
    omega arith

pub returns : goal.returns
returns c =
    let count = ap (λ (h : HeadSeries). length h.samples) (sym c.self.view_is) ∙ length-joined_chunks c.self.inside.sealed c.self.inside.tail.items c.self.invariant.full in
    let sealed = sym (length-map c.chunks.result.now (λ a. arc_value a)) ∙ ap length c.chunks.ensures in
    let last : c.len.result ≡ length c.self.inside.tail.items = search rules in
    few_told (length c.chunks.result.now) c.len.result _ _ (length c.args.self.now.samples) count sealed last (sym c.is_full.ensures ∙ c.if-is_full.false)
