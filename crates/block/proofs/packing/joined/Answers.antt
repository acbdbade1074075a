use Rattle.std.proofs.Common.{arith}
use Rattle.block.proofs.Packs.{starts_next}
use Rattle.block.proofs.packing.joined.Goals as goal

pub loop-i-preserved : goal.loop-i-preserved
loop-i-preserved c =
    starts_next c.len-by.result c.args.back.starts.items c.loop-i.i c.index.result.now
    c.args.front.starts.items c.loop-i.starts.items c.push.new.self.items (omega arith)
    c.index.ensures c.in_ok-push.ensures.items c.loop-i.invariant
