use Rattle.audit_laws.proofs.Walked.{block_walked}
use Rattle.audit_laws.proofs.walking.blocks_are_walked.Goals as goal

pub returns : goal.returns
returns c = block_walked
