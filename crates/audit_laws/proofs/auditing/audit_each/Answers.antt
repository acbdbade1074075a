use Rattle.std.proofs.Common.{sym, subst}
use Rattle.audit_laws.specs.Told.{IsToldOf}
use Rattle.audit_laws.proofs.auditing.audit_each.Goals as goal

pub audit_named-requires : goal.audit_named-requires
audit_named-requires c =
    subst (IsToldOf c.args.query.now c.args.snapshot.now) (sym c.answer-item.is)
    (c.requires c.loop-answer.answer-index c.answer-item.result c.loop-answer-test.true)
