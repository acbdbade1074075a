use Rattle.audit_laws.proofs.Answered.{sound_of_asked, skipped_silent}
use Rattle.audit_laws.proofs.MergedRows.{merged_last}
use Rattle.audit_laws.proofs.judging.answers_are_sound.Goals as goal

pub returns : goal.returns
returns c = record { sound = sound_of_asked; silent = skipped_silent; merged = merged_last }
