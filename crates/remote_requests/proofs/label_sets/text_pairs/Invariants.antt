use Rattle.std.proofs.Common.{◌≡◌, true, take, map}
use Rattle.std.specs.List.{list_all}
use Rattle.labels.specs.Pairs.{pairs_of}
use Rattle.remote_write.specs.Reading.{label_seen}
use Rattle.remote_requests.specs.Series.{is_text_pair, label_pairs}
use Rattle.remote_requests.proofs.label_sets.text_pairs.Given as goal

abbrev pub invariant-loop-label : goal.invariant-loop-label
invariant-loop-label l =
    (pairs_of l.pairs.items ≡ label_pairs (map label_seen (take l.label-index l.labels)))
    × (list_all is_text_pair (label_pairs (map label_seen (take l.label-index l.labels))) ≡ true)
