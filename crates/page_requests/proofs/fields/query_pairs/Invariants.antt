use Rattle.std.proofs.Common.{◌≡◌, ◌++◌, map}
use Rattle.form_urlencoded.specs.Parse.{owned_pairs_left}
use Rattle.labels.specs.Pairs.{pairs_of}
use Rattle.requests.specs.QueryStrings.{query_pairs, decoded_text}
use Rattle.page_requests.proofs.fields.query_pairs.Given as goal

abbrev pub invariant-loop-pair : goal.invariant-loop-pair
invariant-loop-pair l =
    pairs_of l.pairs.items ++ map (λ p. (decoded_text p.0, decoded_text p.1))
    (owned_pairs_left l.pair-iterator) ≡ query_pairs l.query
