use Rattle.audit_laws.proofs.Answered.{skipped_silent}
use Rattle.audit_laws.proofs.Flawless.{silent_passes}
use Rattle.audit_laws.proofs.auditing.audit_skipped.Goals as goal

pub returns : goal.returns
returns c =
    let block = c.args.block.now in
    let query = c.args.query.now in
    silent_passes block.part query c.audit_block_skip.result
    (skipped_silent query block c.range.ensures.inside c.requires)
    c.audit_block_skip.ensures.hidden
