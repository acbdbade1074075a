-- How the program ends.
use Rattle.std.specs.Prelude.{◌≡◌, ◌⊎◌, ℕ, List, Option, Result, Ok, Err, IsOk, OnOk, IfSome}
use Rattle.std.specs.Prelude.{string_bytes}
use Rattle.std.specs.Io.KnownBytes.{Appends, Keeps}
use Rattle.clap.specs.Words.{App, IsAmong, Text, fault_of, kind_of}
use Rattle.clap.specs.declared.error.kind.ErrorKind.TheVariants.{DisplayHelp, DisplayVersion}
use Rattle.audit_command.specs.Asking.{AreTaken, IsAskedBy, auditor_app}
use Rattle.audit_command.specs.Auditing.{IsReport, IsAuditFault}
use Rattle.audit_command.specs.Faults.{status_of, line_of}
use Rattle.audit_command.specs.Reading.{Host}
use Rattle.audit_command.specs.declared.command.Asked.{Asked}
use Rattle.audit_command.specs.declared.fault.Fault.{Fault}
use Rattle.audit_command.specs.declared.fault.Fault.TheVariants as fault
use Rattle.audit_command.specs.declared.report.Outcome.{Outcome}
use Rattle.audit_command.specs.declared.report.Outcome.TheVariants.{Done, Flawed}
use Rattle.audit_command.specs.declared.report.Report.{Report}
use Rattle.audit_command.specs.declared.program.Ending.{Ending}

-- the lines of the report were written, and nothing else; the outcome is that of the report
pub record IsReported (reads : Host) (input : Option (List ℕ)) (asked : Asked)
    (old new : Option (List ℕ)) (outcome : Outcome) : Type 0 where
  pub report : Report
  pub is : IsReport reads input asked report
  pub written : Appends old new (string_bytes report.text)
  pub outcome_is : outcome ≡ report.outcome

-- the writer holds what it held, unless it failed
abbrev pub KeepsAt : Fault → Option (List ℕ) → Option (List ℕ) → Type 0
KeepsAt fault.CannotWrite old new = Unit {0}
KeepsAt (fault.Words error) old new = Keeps old new
KeepsAt (fault.Refused refusal) old new = Keeps old new
KeepsAt fault.CannotReadInput old new = Keeps old new
KeepsAt fault.BadReply old new = Keeps old new
KeepsAt (fault.CannotRead path) old new = Keeps old new
KeepsAt fault.Memory old new = Keeps old new

-- how an audit ends
abbrev pub IsAuditEnd : Host → Option (List ℕ) → Asked → Option (List ℕ) → Option (List ℕ)
    → Result Outcome Fault → Type 0
IsAuditEnd reads input asked old new (Ok outcome) = IsReported reads input asked old new outcome
IsAuditEnd reads input asked old new (Err fault) = IsAuditFault reads input asked fault
    × KeepsAt fault old new

-- how words that `clap` takes end: as the audit that they ask for, or by want of memory before it
-- begins
pub data IsEnd (reads : Host) (input : Option (List ℕ)) (words : List Text)
    (old new : Option (List ℕ)) (end : Result Outcome Fault) : Type 0 where
  by_audit : (asked : Asked) → IsAskedBy words asked → IsAuditEnd reads input asked old new end
      → IsEnd reads input words old new end
  by_memory : end ≡ Err fault.Memory → Keeps old new → IsEnd reads input words old new end

-- the words ask a program for help or for its version
abbrev pub AskForText : App → List Text → Type 0
AskForText app words = IsAmong DisplayHelp (fault_of app words)
    ⊎ IsAmong DisplayVersion (fault_of app words)

-- by which fault words end that `clap` does not take: the writer failed at the text that they ask
-- for; or they are at fault, in a way that `clap` finds in them; or memory failed
abbrev pub IsWordsFault : App → List Text → Fault → Type 0
IsWordsFault app words fault.CannotWrite = AskForText app words
IsWordsFault app words (fault.Words error) = IsAmong (kind_of error) (fault_of app words)
IsWordsFault app words fault.Memory = Unit {0}
IsWordsFault app words _ = ⊥

-- how words that `clap` does not take may end: the text that they ask for was written; or by a
-- fault
abbrev pub IsNoAudit : List Text → Result Outcome Fault → Type 0
IsNoAudit words (Ok Done) = AskForText auditor_app words
IsNoAudit words (Ok Flawed) = ⊥
IsNoAudit words (Err end) = IsWordsFault auditor_app words end

-- the exit status of an end
abbrev pub status_at : Result Outcome Fault → ℕ
status_at (Ok Done) = 0
status_at (Ok Flawed) = 1
status_at (Err fault) = status_of fault

-- the line of a fault was written, or the writer failed; of an end without a fault nothing was
abbrev pub IsTold : {E : Type 0} → Result Outcome Fault → Result (Unit {0}) E → Option (List ℕ)
    → Option (List ℕ) → Type 0
IsTold (Ok outcome) told old new = IsOk told × Keeps old new
IsTold (Err fault) told old new = OnOk told (IfSome (line_of fault) (Appends old new))

-- Words that `clap` takes end as the audit that they ask for, and others as no audit. The exit
-- status says which end it is, and a fault was told.
pub record HasEnded (reads : Host) (input : Option (List ℕ)) (words : List Text)
    (old new told_old told_new : Option (List ℕ)) (ending : Ending) : Type 0 where
  pub end : Result Outcome Fault
  pub audit : AreTaken words → IsEnd reads input words old new end
  pub no_audit : (AreTaken words → ⊥) → IsNoAudit words end
  pub status : ending.status ≡ status_at end
  pub told : IsTold end ending.told told_old told_new
