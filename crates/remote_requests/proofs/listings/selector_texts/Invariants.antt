use Rattle.std.proofs.Common.{◌≡◌, ◌++◌, map, drop}
use Rattle.labels.specs.Pairs.{pairs_of}
use Rattle.requests.specs.QueryStrings.{values_named}
use Rattle.remote_requests.specs.Asking.{match_name}
use Rattle.remote_requests.proofs.listings.selector_texts.Given as goal

abbrev pub invariant-loop-pair : goal.invariant-loop-pair
invariant-loop-pair l =
    values_named match_name (pairs_of l.pairs)
    ≡ map (λ t. t.now) l.texts.items
    ++ values_named match_name (pairs_of (drop l.pair-index l.pairs))
