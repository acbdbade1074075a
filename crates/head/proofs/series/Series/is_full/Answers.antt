use Rattle.std.proofs.Common.{◌≡◌, length, ap, sym, ◌∙◌, rules}
use Rattle.std.proofs.lemmas.List.{length-map}
use Rattle.std.specs.Arc.{arc_value}
use Rattle.head.specs.Heads.{HeadSeries}
use Rattle.head.proofs.Chunks.{length-joined_chunks, full_above, full_at, full_below}
use Rattle.head.proofs.series.Series.is_full.Goals as goal

pub returns-then-sealed-last : goal.returns-then-sealed-last
returns-then-sealed-last c =
    let count = ap (λ (h : HeadSeries). length h.samples) (sym c.self.view_is) ∙ length-joined_chunks c.self.inside.sealed c.self.inside.tail.items c.self.invariant.full in
    let sealed = sym (length-map c.chunks-sealed.result.now (λ a. arc_value a)) ∙ ap length c.chunks-sealed.ensures in
    full_above (length c.chunks-sealed.result.now) _ _ (length c.args.self.now.samples) count sealed c.if-sealed-last.true

pub returns-then-sealed-last-2 : goal.returns-then-sealed-last-2
returns-then-sealed-last-2 c =
    let count = ap (λ (h : HeadSeries). length h.samples) (sym c.self.view_is) ∙ length-joined_chunks c.self.inside.sealed c.self.inside.tail.items c.self.invariant.full in
    let sealed = sym (length-map c.chunks-sealed.result.now (λ a. arc_value a)) ∙ ap length c.chunks-sealed.ensures in
    let last : c.len.result ≡ length c.self.inside.tail.items = search rules in
    full_at (length c.chunks-sealed.result.now) c.len.result _ _ (length c.args.self.now.samples) count sealed last c.if-sealed-last-2.true

pub returns-else-sealed-last-2 : goal.returns-else-sealed-last-2
returns-else-sealed-last-2 c =
    let count = ap (λ (h : HeadSeries). length h.samples) (sym c.self.view_is) ∙ length-joined_chunks c.self.inside.sealed c.self.inside.tail.items c.self.invariant.full in
    let sealed = sym (length-map c.chunks-sealed.result.now (λ a. arc_value a)) ∙ ap length c.chunks-sealed.ensures in
    full_below (length c.chunks-sealed.result.now) _ _ (length c.args.self.now.samples) count sealed c.self.invariant.fewer c.if-sealed-last.false c.if-sealed-last-2.false
