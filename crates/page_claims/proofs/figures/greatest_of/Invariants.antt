use Rattle.std.proofs.Common.{◌≡◌, drop}
use Rattle.page_claims.specs.Figuring.{greatest_of}
use Rattle.page_claims.proofs.figures.greatest_of.Given as goal

abbrev pub invariant-loop-sample : goal.invariant-loop-sample
invariant-loop-sample l =
    greatest_of l.number l.samples ≡ greatest_of l.greatest (drop l.sample-index l.samples)
