use Rattle.std.proofs.Common.{◌≤◌}
use Rattle.text_choices.specs.Shared.{lead}
use Rattle.text_choices.proofs.alternative.lead_from.Given as goal

abbrev pub invariant-loop-i : goal.invariant-loop-i
invariant-loop-i l = l.i ≤ lead l.atoms l.value
