use Rattle.std.proofs.Common.{◌≡◌, true, length, drop}
use Rattle.auditor.specs.Auditing.{all_known}
use Rattle.whole_audit.specs.Taking.{after_taking}
use Rattle.whole_audit.proofs.explaining.after_taking.Given as goal

abbrev pub invariant-loop-at : goal.invariant-loop-at
invariant-loop-at l = record {
  same : l.looks ≡ l.initial.looks;
  known : all_known (length l.initial.looks.matchers) (drop l.at l.certificate) ≡ true;
  left : after_taking l.initial.looks l.entry (drop l.at l.certificate)
      ≡ after_taking l.initial.looks l.entry l.certificate;
}
