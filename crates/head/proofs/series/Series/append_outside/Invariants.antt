use Rattle.std.proofs.Common.{◌≡◌, ◌++◌, take}
use Rattle.head.specs.Removing.{outside}
use Rattle.head.proofs.series.Series.append_outside.Given as goal

abbrev pub invariant-loop-sample : goal.invariant-loop-sample
invariant-loop-sample l = l.self ≡ record l.fn.self { samples = l.fn.self.samples ++ outside l.from l.to (take l.sample-index l.samples) }
