use Rattle.std.proofs.Common.{◌≡◌, take}
use Rattle.block.proofs.blocks.Block.list_all.Given as goal

abbrev pub invariant-loop-i : goal.invariant-loop-i
invariant-loop-i l = l.rows.items ≡ take l.i l.self.part
