use Rattle.std.proofs.Common.{◌≡◌, drop}
use Rattle.labels.specs.Pairs.{pairs_of}
use Rattle.page_requests.specs.Fields.{are_fields}
use Rattle.page_requests.proofs.fields.are_fields.Given as goal

abbrev pub invariant-loop-pair : goal.invariant-loop-pair
invariant-loop-pair l =
    are_fields (pairs_of l.pairs) ≡ are_fields (pairs_of (drop l.pair-index l.pairs))
