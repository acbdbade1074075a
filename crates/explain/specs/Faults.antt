-- What each fault ends the program with: its status, and the line that tells it.
use Rattle.std.specs.Prelude.{ℕ, List, Option, Some, codes}
use Rattle.std.specs.Fmt.{with_newline}
use Rattle.audit_command.specs.Faults as audits
use Rattle.store_command.specs.Faults as stores
use Rattle.explain.specs.declared.fault.Fault.{Fault}
use Rattle.explain.specs.declared.fault.Fault.TheVariants.{Audit, NoSeries, NoMeaning, Beside}
use Rattle.explain.specs.declared.fault.Fault.TheVariants.{Store}

-- the exit status
abbrev pub status_of : Fault → ℕ
status_of (Audit fault) = audits.status_of fault
status_of NoSeries = 1
status_of NoMeaning = 1
status_of Beside = 2
status_of (Store fault) = stores.status_of fault

-- the line that tells the fault; the text of the words is `clap`'s own
abbrev pub line_of : Fault → Option (List ℕ)
line_of (Audit fault) = audits.line_of fault
line_of NoSeries = with_newline (Some (codes "refused --about: no series"))
line_of NoMeaning = with_newline (Some (codes "refused --values: no meaning"))
line_of Beside = with_newline (Some (codes "--store: no directory beside it"))
line_of (Store fault) = stores.line_of fault
