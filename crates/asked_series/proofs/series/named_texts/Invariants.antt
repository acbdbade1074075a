use Rattle.std.proofs.Common.{◌≡◌, take}
use Rattle.labels.specs.Pairs.{pairs_of}
use Rattle.asked_series.specs.Series.{named_texts}
use Rattle.asked_series.proofs.series.named_texts.Given as goal

abbrev pub invariant-loop-matcher : goal.invariant-loop-matcher
invariant-loop-matcher l = pairs_of l.pairs.items ≡ named_texts (take l.matcher-index l.matchers)
