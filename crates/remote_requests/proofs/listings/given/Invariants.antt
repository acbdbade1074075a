use Rattle.std.proofs.Common.{◌≡◌, drop}
use Rattle.labels.specs.Pairs.{pairs_of}
use Rattle.requests.specs.QueryStrings.{values_named}
use Rattle.remote_requests.proofs.listings.given.Given as goal

abbrev pub invariant-loop-pair : goal.invariant-loop-pair
invariant-loop-pair l =
    values_named l.name (pairs_of l.pairs)
    ≡ values_named l.name (pairs_of (drop l.pair-index l.pairs))
