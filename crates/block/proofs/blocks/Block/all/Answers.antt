use Rattle.std.proofs.Common.{ℕ, List, ap, ◌∙◌}
use Rattle.block.proofs.Showing.{refs_are}
use Rattle.block.proofs.blocks.Block.all.Goals as goal

pub returns : goal.returns
returns c =
    c.all.ensures
    ∙ ap (λ (rs : List ℕ). (rs, 0))
    (refs_are c.deref.result.now c.self.inside c.args.self.now c.deref.ensures c.self.view_is)
