use Rattle.std.proofs.Common.{subst, IfErr}
use Rattle.std.specs.Prelude.{OnOk}
use Rattle.labels.specs.Parts.{Part}
use Rattle.head.specs.Shown.{part_of}
use Rattle.auditor.specs.Auditing.{IsSoundAnswer, IsAuditError}
use Rattle.audit_laws.proofs.auditing.audit_head.Goals as goal

pub returns-clause-sound : goal.returns-clause-sound
returns-clause-sound c =
    subst (λ (part : Part). OnOk c.audit.result (IsSoundAnswer part c.args.query.now c.args.answer.now))
    c.in_ok-table.ensures c.audit.ensures.sound

pub returns-clause-flawed : goal.returns-clause-flawed
returns-clause-flawed c =
    subst (λ (part : Part). IfErr c.audit.result (IsAuditError part c.args.query.now c.args.answer.now))
    c.in_ok-table.ensures c.audit.ensures.flawed
