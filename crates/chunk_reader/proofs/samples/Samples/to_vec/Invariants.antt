use Rattle.std.proofs.Common.{◌≡◌, take}
use Rattle.chunk_reader.proofs.samples.Samples.to_vec.Given as goal

abbrev pub invariant-loop-i : goal.invariant-loop-i
invariant-loop-i l = l.samples.items ≡ take l.i l.self
