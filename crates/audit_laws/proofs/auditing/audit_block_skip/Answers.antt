use Rattle.std.proofs.Common.{◌≡◌, [], subst, IfErr}
use Rattle.std.specs.Prelude.{OnOk}
use Rattle.labels.specs.Parts.{Part}
use Rattle.auditor.specs.Auditing.{IsHiding, selected_content}
use Rattle.audit_laws.proofs.auditing.audit_block_skip.Goals as goal

pub returns-clause-silent : goal.returns-clause-silent
returns-clause-silent c =
    subst (λ (part : Part). OnOk c.audit_skip.result (selected_content part c.args.query.now ≡ []))
    c.in_ok-table.ensures c.audit_skip.ensures.empty

pub returns-clause-hidden : goal.returns-clause-hidden
returns-clause-hidden c =
    subst (λ (part : Part). IfErr c.audit_skip.result (IsHiding part c.args.query.now))
    c.in_ok-table.ensures c.audit_skip.ensures.hidden
