use Rattle.std.proofs.Common.{◌≡◌, ◌++◌, take}
use Rattle.labels.specs.Parts.{within}
use Rattle.head.proofs.series.Chunk.push_within.Given as goal

abbrev pub invariant-loop-place : goal.invariant-loop-place
invariant-loop-place l = l.found.items ≡ l.fn.found.items ++ within l.from l.to (take l.place l.self)
