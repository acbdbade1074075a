use Rattle.std.proofs.Common.{ℤ, Some, sym, ap, ◌∙◌, to_z, of_z}
use Rattle.std.specs.Int.{w64}
use Rattle.std.proofs.lemmas.Int.{to_z-of_z}
use Rattle.labels.specs.Rows.{Row}
use Rattle.labels.specs.Parts.{within}
use Rattle.block.proofs.Listed.{row_is}
use Rattle.block.proofs.blocks.Block.row_at.Goals as goal

pub returns : goal.returns
returns c =
    let shown = c.args.self.now in
    let from =
    to_z-of_z w64 c.min.result (record { sfits = c.min.type_inv })
    ∙ c.min.ensures.first
    ∙ ap (λ (r : ℤ × ℤ). r.0) c.range-range.ensures.range in
    let to =
    to_z-of_z w64 c.max.result (record { sfits = c.max.type_inv })
    ∙ c.max.ensures.end
    ∙ ap (λ (r : ℤ × ℤ). r.1) c.range-range.ensures.range in
    row_is shown.range shown.part c.args.i c.reference_at.result c.in_ok-labels.labels
    c.in_ok-samples.samples.items c.requires c.range-range.ensures.inside c.reference_at.ensures
    (λ row h. c.in_ok-labels.ensures row h)
    (λ row h. c.in_ok-samples.ensures row h
    ∙ ap (λ (t : ℤ). within t (to_z w64 (of_z w64 c.max.result)) row.1.1) from
    ∙ ap (λ (t : ℤ). within shown.range.0 t row.1.1) to)
    ∙ ap (λ (row : Row). Some (c.reference_at.result, row)) (sym c.new.ensures)
