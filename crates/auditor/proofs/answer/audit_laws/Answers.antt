use Rattle.auditor.proofs.Excluding.{sound_not}
use Rattle.auditor.proofs.Judging.{sound_least}
use Rattle.auditor.proofs.answer.audit_laws.Goals as goal

pub returns : goal.returns
returns c = record { least = sound_least; flawless = sound_not }
