-- A writer that was not used keeps what it held, however the program ends.
use Rattle.std.proofs.Common.{ℕ, List, Option}
use Rattle.audit_command.proofs.Endings as audits
use Rattle.store_command.specs.Running.{KeepsAt}
use Rattle.store_command.specs.declared.fault.Fault.{Fault}
use Rattle.store_command.specs.declared.fault.Fault.TheVariants.{Audit, NoMark, Journal, Head}
use Rattle.store_command.specs.declared.fault.Fault.TheVariants.{Event, Changes, Rolled, Before}

pub unused : (fault : Fault) (old : Option (List ℕ)) → KeepsAt fault old old
unused (Audit fault) old = audits.unused fault old
unused NoMark old = audits.keeps_itself old
unused (Journal error) old = audits.keeps_itself old
unused Head old = audits.keeps_itself old
unused (Event at) old = audits.keeps_itself old
unused (Changes folder) old = audits.keeps_itself old
unused (Rolled mark) old = audits.keeps_itself old
unused (Before earlier) old = audits.keeps_itself old
