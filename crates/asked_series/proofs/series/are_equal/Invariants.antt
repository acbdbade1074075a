use Rattle.std.proofs.Common.{◌≡◌, drop}
use Rattle.asked_series.specs.Series.{are_equal}
use Rattle.asked_series.proofs.series.are_equal.Given as goal

abbrev pub invariant-loop-matcher : goal.invariant-loop-matcher
invariant-loop-matcher l = are_equal l.matchers ≡ are_equal (drop l.matcher-index l.matchers)
