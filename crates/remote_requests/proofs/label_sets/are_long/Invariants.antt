use Rattle.std.proofs.Common.{◌≡◌, ◌+◌, drop, map}
use Rattle.remote_write.specs.Reading.{label_seen}
use Rattle.remote_requests.specs.Series.{bytes_in, label_pairs}
use Rattle.remote_requests.proofs.label_sets.are_long.Given as goal

-- what is left of the room, for the labels that are left
abbrev pub invariant-loop-label : goal.invariant-loop-label
invariant-loop-label l =
    l.room + bytes_in (label_pairs (map label_seen l.labels))
    ≡ 65536 + bytes_in (label_pairs (map label_seen (drop l.label-index l.labels)))
