use Rattle.std.proofs.Common.{◌≡◌, ◌++◌, drop, map}
use Rattle.remote_write.specs.Reading.{label_seen}
use Rattle.remote_rows.specs.Sent.{label_of}
use Rattle.remote_rows.proofs.series.add_labels.Given as goal

abbrev pub invariant-loop-at : goal.invariant-loop-at
invariant-loop-at l =
    map label_seen l.out.items ++ map label_of (drop l.at l.labels)
    ≡ map label_seen l.fn.out.items ++ map label_of l.labels
