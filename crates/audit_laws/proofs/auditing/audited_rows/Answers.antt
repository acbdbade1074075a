use Rattle.audit_laws.proofs.Named.{all_told}
use Rattle.audit_laws.proofs.auditing.audited_rows.Goals as goal

pub audit_each-requires : goal.audit_each-requires
audit_each-requires c = all_told c.args.query.now c.args.snapshot.now c.args.answers.now c.requires
