use Rattle.std.proofs.Common.{◌≡◌, true, length, drop, Some}
use Rattle.auditor.specs.Auditing.{all_known}
use Rattle.whole_audit.specs.Explaining.{sampled}
use Rattle.whole_audit.specs.Taking.{are_taken_from}
use Rattle.whole_audit.proofs.explaining.are_taken.Given as goal

abbrev pub invariant-loop-entry : goal.invariant-loop-entry
invariant-loop-entry l = record {
  same : l.looks ≡ l.initial.looks;
  known : all_known (length l.initial.looks.matchers) l.rest ≡ true;
  left : are_taken_from l.initial.looks (Some l.rest) (sampled (drop l.entry-index l.series))
      ≡ are_taken_from l.initial.looks (Some l.certificate) (sampled l.series);
}
