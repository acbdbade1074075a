use Rattle.std.proofs.Common.{◌≡◌, drop}
use Rattle.index_reader.specs.Reading.Walk.{in_turn, take_label}
use Rattle.index_reader.proofs.agreement.Rests.take_labels.Given as goal

abbrev pub invariant-loop-at : goal.invariant-loop-at
invariant-loop-at l =
    in_turn (take_label l.reference) l.self (drop l.at l.labels)
    ≡ in_turn (take_label l.reference) l.fn.self l.labels
