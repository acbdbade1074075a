use Rattle.std.proofs.Common.{◌≡◌, drop}
use Rattle.std.specs.List.Sorted.{IsStrictlyIncreasing}
use Rattle.labels.specs.Parts.{references}
use Rattle.auditor.specs.Looking.{are_picked}
use Rattle.whole_audit.proofs.references.are_picked.Given as goal

abbrev pub invariant-loop-number : goal.invariant-loop-number
invariant-loop-number l = record {
  rises : IsStrictlyIncreasing (references l.rest);
  left : are_picked (drop l.number-index l.numbers) l.rest ≡ are_picked l.numbers l.series;
}
