use Rattle.std.proofs.Common.{◌≡◌, take}
use Rattle.head.proofs.series.Series.of_saved.Given as goal

-- the samples so far
abbrev pub invariant-loop-sample : goal.invariant-loop-sample
invariant-loop-sample l = l.series ≡ record l.saved { samples = take l.sample-index l.sample-items }
