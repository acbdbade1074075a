use Rattle.block.proofs.Showing.{set_each}
use Rattle.block.proofs.blocks.Block.labels_at.Goals as goal

pub returns : goal.returns
returns c =
    set_each c.deref.result.now c.self.inside c.args.self.now c.deref.ensures c.self.view_is
    c.labels_at.result c.args.i c.labels_at.ensures
