use Rattle.std.proofs.Common.{◌≡◌, ◌++◌, take}
use Rattle.labels.specs.Parts.{within}
use Rattle.head.proofs.series.push_within.Given as goal

abbrev pub invariant-loop-sample : goal.invariant-loop-sample
invariant-loop-sample l = l.found.items ≡ l.fn.found.items ++ within l.from l.to (take l.sample-index l.samples)
