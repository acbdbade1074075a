use Rattle.std.proofs.Common.{ℤ, Option, sym, ap, ◌∙◌, to_z, of_z}
use Rattle.std.specs.Int.{w64}
use Rattle.std.proofs.lemmas.Int.{to_z-of_z}
use Rattle.std.proofs.lemmas.Result.{IfOk-weaker}
use Rattle.labels.specs.Rows.{Row}
use Rattle.labels.specs.Parts.{samples_within, within}
use Rattle.block.proofs.Showing.{found_is, rising, row_is_none}
use Rattle.block.proofs.blocks.Block.samples_of.Goals as goal

pub returns-in-Some : goal.returns-in-Some
returns-in-Some c =
    let from = to_z-of_z w64 c.args.from c.ranges.from in
    let to = to_z-of_z w64 c.args.to c.ranges.to in
    let row =
    found_is c.deref.result.now c.self.inside c.args.self.now c.deref.ensures c.self.view_is
    c.in-Some.at c.args.reference (rising c.deref.result.now c.self.inside c.deref.ensures
    c.self.invariant) c.in-Some.ensures.found in
    IfOk-weaker c.samples_at.result _ _
    (λ samples h.
    h row.0 row.1.0
    ∙ ap (λ (t : ℤ). within t (to_z w64 (of_z w64 c.args.to)) row.0.1.1) from
    ∙ ap (λ (t : ℤ). within c.args.from t row.0.1.1) to
    ∙ sym (ap (samples_within c.args.from c.args.to) row.1.1))
    c.samples_at.ensures

pub returns-in-None : goal.returns-in-None
returns-in-None c =
    c.new.ensures.items
    ∙ sym (ap (λ (row : Option Row). samples_within c.args.from c.args.to row)
    (row_is_none c.deref.result.now c.self.inside c.args.self.now c.deref.ensures c.self.view_is
    c.args.reference c.in-None.ensures.none))
