use Rattle.text_choices.proofs.Front.{Scan}
use Rattle.text_choices.proofs.choice.any_fits_ascii.Given as goal

abbrev pub invariant-loop-one : goal.invariant-loop-one
invariant-loop-one l = Scan l.alternatives l.value l.one-index l.lead
