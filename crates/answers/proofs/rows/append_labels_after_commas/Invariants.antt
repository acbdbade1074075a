use Rattle.std.proofs.Common.{◌≡◌, ◌++◌, drop}
use Rattle.answers.specs.AfterCommas.{labels_after_commas}
use Rattle.answers.proofs.rows.append_labels_after_commas.Given as goal

abbrev pub invariant-loop-at : goal.invariant-loop-at
invariant-loop-at l =
    l.out.items ++ labels_after_commas (drop l.at l.labels)
    ≡ l.fn.out.items ++ labels_after_commas l.labels
