use Rattle.text_choices.specs.Shared.{Share}
use Rattle.text_choices.proofs.alternative.shared.Given as goal

abbrev pub invariant-loop-i : goal.invariant-loop-i
invariant-loop-i l = Share l.i l.before l.atoms
