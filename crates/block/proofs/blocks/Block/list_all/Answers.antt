use Rattle.block.proofs.Listed.{rows_next}
use Rattle.block.proofs.blocks.Block.list_all.Goals as goal

pub loop-i-preserved : goal.loop-i-preserved
loop-i-preserved c =
    rows_next c.args.self.now.part c.loop-i.i c.in_ok-row_at.field-0 c.loop-i.rows.items
    c.push.new.self.items c.in_ok-push.ensures.items c.loop-i.invariant c.in_ok-row_at.ensures
