use Rattle.std.proofs.Common.{◌≡◌, drop}
use Rattle.std.specs.List.Sorted.{IsStrictlyIncreasing}
use Rattle.labels.specs.Parts.{references}
use Rattle.auditor.specs.Looking.{are_picked}
use Rattle.auditor.proofs.separators.are_picked.Given as goal

abbrev pub invariant-loop-separator : goal.invariant-loop-separator
invariant-loop-separator l = record {
  rises : IsStrictlyIncreasing (references l.rest);
  left : are_picked (drop l.separator-index l.separators) l.rest ≡ are_picked l.separators l.series;
}
