use Rattle.audit_laws.proofs.MergedRows.{merged_last}
use Rattle.audit_laws.proofs.Flawless.{merged_passes}
use Rattle.audit_laws.proofs.auditing.audit_rows.Goals as goal

pub returns : goal.returns
returns c =
    merged_passes c.args.answers.now c.args.rows.now c.audit_merge.result
    (merged_last c.args.query.now c.args.snapshot.now c.args.answers.now c.args.rows.now
    c.requires.answers c.requires.rows)
    c.audit_merge.ensures.unmerged
