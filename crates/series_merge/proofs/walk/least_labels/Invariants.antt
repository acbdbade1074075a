use Rattle.std.proofs.Common.{take}
use Rattle.series_merge.specs.Walking.{IsLeast}
use Rattle.series_merge.proofs.walk.least_labels.Given as goal

abbrev pub invariant-loop-part : goal.invariant-loop-part
invariant-loop-part l = IsLeast l.least (take l.part-index l.parts)
