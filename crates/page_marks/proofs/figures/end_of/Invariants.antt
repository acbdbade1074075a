use Rattle.page_marks.proofs.Ends.{IsFirst}
use Rattle.page_marks.proofs.figures.end_of.Given as goal

abbrev pub invariant-loop-sample : goal.invariant-loop-sample
invariant-loop-sample l = IsFirst l.end l.samples l.sample-index l.found
