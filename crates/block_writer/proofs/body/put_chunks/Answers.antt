use Rattle.std.proofs.Common.{arith}
use Rattle.block_writer.proofs.Placing.{none}
use Rattle.block_writer.proofs.Building.{later_on, later_done}
use Rattle.block_writer.proofs.body.put_chunks.Goals as goal

pub loop-i-preserved : goal.loop-i-preserved
loop-i-preserved c =
    later_on c.args.chunks.now c.loop-i.i none _ _ c.loop-i.out.items c.put_later.new.out.items _
    (omega arith) (omega arith) c.in_ok-put_later.ensures c.loop-i.invariant

pub returns : goal.returns
returns c =
    later_done c.args.chunks.now c.loop-i.i _ c.loop-i.out.items _ (omega arith) c.loop-i.invariant
