use Rattle.std.proofs.Common.{◌≡◌, drop}
use Rattle.page_claims.specs.Figuring.{least_of}
use Rattle.page_claims.proofs.figures.least_of.Given as goal

abbrev pub invariant-loop-sample : goal.invariant-loop-sample
invariant-loop-sample l =
    least_of l.number l.samples ≡ least_of l.least (drop l.sample-index l.samples)
