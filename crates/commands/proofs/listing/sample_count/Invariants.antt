use Rattle.std.proofs.Common.{◌≡◌, take}
use Rattle.commands.specs.Listing.{saved_samples}
use Rattle.commands.proofs.listing.sample_count.Given as goal

-- the sum so far
abbrev pub invariant-loop-series : goal.invariant-loop-series
invariant-loop-series l = l.count ≡ saved_samples (take l.series-index l.fn.head.head)
