use Rattle.std.proofs.Common.{◌≡◌, ◌-◌, drop}
use Rattle.labels.specs.Pairs.{texts_of}
use Rattle.event_text.specs.Neighbours.{neighbours}
use Rattle.event_text.specs.Reading.{rises}
use Rattle.event_text.proofs.label_check.are_by_name.Given as goal

abbrev pub invariant-loop-i : goal.invariant-loop-i
invariant-loop-i l =
    neighbours rises (drop (l.i - 1) (texts_of l.pairs)) ≡ neighbours rises (texts_of l.pairs)
