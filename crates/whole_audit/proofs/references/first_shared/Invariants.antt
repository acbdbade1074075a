use Rattle.std.proofs.Common.{◌≡◌, drop}
use Rattle.std.specs.List.Sorted.{IsStrictlyIncreasing}
use Rattle.labels.specs.Parts.{references}
use Rattle.auditor.specs.Looking.{first_shared}
use Rattle.whole_audit.proofs.references.first_shared.Given as goal

abbrev pub invariant-loop-at : goal.invariant-loop-at
invariant-loop-at l = record {
  same : l.looks ≡ l.initial.looks;
  rises : IsStrictlyIncreasing (references l.rest);
  left : first_shared l.initial.looks l.at (drop l.at l.later) l.rest
      ≡ first_shared l.initial.looks 0 l.later l.initial.rest;
}
