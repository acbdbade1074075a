use Rattle.std.proofs.Common.{◌≡◌, ◌++◌, drop}
use Rattle.labels.specs.Pairs.{pairs_of}
use Rattle.requests.specs.QueryStrings.{values_named}
use Rattle.requests.proofs.Found.{found_list}
use Rattle.page_requests.proofs.fields.only_value.Given as goal

abbrev pub invariant-loop-pair : goal.invariant-loop-pair
invariant-loop-pair l =
    values_named l.name (pairs_of l.pairs)
    ≡ found_list l.found ++ values_named l.name (pairs_of (drop l.pair-index l.pairs))
