-- A writer that was not used keeps what it held, however the program ends.
use Rattle.std.proofs.Common.{ℕ, List, Option}
use Rattle.audit_command.proofs.Endings as audits
use Rattle.explain.specs.Running.{KeepsAt}
use Rattle.explain.specs.declared.fault.Fault.{Fault}
use Rattle.explain.specs.declared.fault.Fault.TheVariants.{Audit, NoSeries, NoMeaning, Beside, Store}

pub unused : (fault : Fault) (old : Option (List ℕ)) → KeepsAt fault old old
unused (Audit fault) old = audits.unused fault old
unused NoSeries old = audits.keeps_itself old
unused NoMeaning old = audits.keeps_itself old
unused Beside old = audits.keeps_itself old
unused (Store fault) old = audits.keeps_itself old
