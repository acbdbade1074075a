use Rattle.std.proofs.Common.{◌≡◌, true, length, drop}
use Rattle.std.specs.List.Sorted.{IsStrictlyIncreasing}
use Rattle.labels.specs.Parts.{references}
use Rattle.auditor.specs.Auditing.{all_known}
use Rattle.auditor.specs.Looking.{first_misfit}
use Rattle.auditor.proofs.intervals.first_misfit.Given as goal

abbrev pub invariant-loop-interval : goal.invariant-loop-interval
invariant-loop-interval l = record {
  same : l.looks ≡ l.initial.looks;
  rises : IsStrictlyIncreasing (references l.rest);
  known : all_known (length l.initial.looks.matchers) (drop l.interval-index l.certificate) ≡ true;
  left : first_misfit l.initial.looks (drop l.interval-index l.certificate) l.rest
      ≡ first_misfit l.initial.looks l.certificate l.series;
}
