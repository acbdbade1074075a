use Rattle.std.proofs.Common.{ℕ, List, sym, ap, ◌∙◌}
use Rattle.std.specs.Prelude.{slice_get}
use Rattle.block.proofs.Showing.{refs_are}
use Rattle.block.proofs.blocks.Block.reference_at.Goals as goal

pub returns : goal.returns
returns c =
    ap (λ (rs : List ℕ). slice_get rs c.args.i)
    (sym (refs_are c.deref.result.now c.self.inside c.args.self.now c.deref.ensures c.self.view_is))
    ∙ c.reference_at.ensures
