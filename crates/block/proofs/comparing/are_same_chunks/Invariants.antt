use Rattle.std.proofs.Common.{◌≡◌, take}
use Rattle.block.proofs.comparing.are_same_chunks.Given as goal

abbrev pub invariant-loop-n : goal.invariant-loop-n
invariant-loop-n l = take l.n l.chunks ≡ take l.n l.others
