use Rattle.std.proofs.Common.{take}
use Rattle.kept_samples.specs.Keeping.{Keeps}
use Rattle.kept_samples.proofs.keeping.keep_samples.Given as goal

abbrev pub invariant-loop-float : goal.invariant-loop-float
invariant-loop-float l =
    Keeps l.asked (take l.float-index l.floats) l.initial.kept.items l.kept.items l.initial.tally
    l.tally
