use Rattle.std.proofs.Common.{◌≡◌, ◌++◌, drop}
use Rattle.metrics_writer.specs.Series.{labels_text}
use Rattle.metrics_writer.proofs.series.append_labels.Given as goal

abbrev pub invariant-loop-i : goal.invariant-loop-i
invariant-loop-i l =
    l.out.items ++ labels_text l.mark (drop l.i l.labels)
    ≡ l.fn.out.items ++ labels_text 123 l.labels
