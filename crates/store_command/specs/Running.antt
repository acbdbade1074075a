-- How the program ends.
use Rattle.std.specs.Prelude.{◌≡◌, ◌++◌, ◌∷◌, [], ℕ, Bool, true, false, List, Option, None, Some}
use Rattle.std.specs.Prelude.{Result, Ok, Err, IsOk, OnOk, IfSome, codes, length, string_bytes}
use Rattle.std.specs.Io.KnownBytes.{Appends, Keeps}
use Rattle.clap.specs.Words.{Text}
use Rattle.audit_command.specs.Auditing.{IsWritingFault}
use Rattle.audit_command.specs.Reading.{Host}
use Rattle.audit_command.specs.Running as audits
use Rattle.audit_command.specs.declared.fault.Fault.TheVariants as faults
use Rattle.audit_command.specs.declared.program.Ending.{Ending}
use Rattle.kept_folder.specs.Folders.{IsJournalAt}
use Rattle.kept_folder.specs.declared.reading.FoundJournal.{FoundJournal}
use Rattle.store_command.specs.Asking.{AreTaken, IsTaskBy, app_for}
use Rattle.store_command.specs.Faults.{status_of, line_of}
use Rattle.store_command.specs.Judging.{IsAuditFault, IsJournalFault, IsReport, IsStoreAuditFault}
use Rattle.store_command.specs.Marks.{mark_at, mark_text}
use Rattle.store_command.specs.declared.command.Aim.{Aim}
use Rattle.store_command.specs.declared.command.Asked.{Asked}
use Rattle.store_command.specs.declared.command.Task.{Task}
use Rattle.store_command.specs.declared.command.Task.TheVariants as tasks
use Rattle.store_command.specs.declared.fault.Fault.{Fault}
use Rattle.store_command.specs.declared.fault.Fault.TheVariants.{Audit, NoMark, Journal, Head}
use Rattle.store_command.specs.declared.fault.Fault.TheVariants.{Event, Changes, Rolled, Before}
use Rattle.store_command.specs.declared.report.Report.{Report}

-- the text of the report was written, and nothing else; the reply is right of a state, or it is not
pub record IsReported (reads : Host) (input : Option (List ℕ)) (asked : Asked)
    (old new : Option (List ℕ)) (is_right : Bool) : Type 0 where
  pub report : Report
  pub is : IsReport reads input asked report
  pub written : Appends old new (string_bytes report.text)
  pub right : is_right ≡ report.is_right

-- the writer holds what it held, unless it failed
abbrev pub KeepsAt : Fault → Option (List ℕ) → Option (List ℕ) → Type 0
KeepsAt (Audit fault) old new = audits.KeepsAt fault old new
KeepsAt NoMark old new = Keeps old new
KeepsAt (Journal error) old new = Keeps old new
KeepsAt Head old new = Keeps old new
KeepsAt (Event at) old new = Keeps old new
KeepsAt (Changes folder) old new = Keeps old new
KeepsAt (Rolled mark) old new = Keeps old new
KeepsAt (Before earlier) old new = Keeps old new

-- how an audit over the folder of a store ends
abbrev pub IsAuditEnd : Host → Option (List ℕ) → Asked → Option (List ℕ) → Option (List ℕ)
    → Result Bool Fault → Type 0
IsAuditEnd reads input asked old new (Ok is_right) = IsReported reads input asked old new is_right
IsAuditEnd reads input asked old new (Err fault) = IsStoreAuditFault reads input asked fault
    × KeepsAt fault old new

-- `mark 5d3163ef:1300`: the head's checksum, and how many events stand behind it
abbrev pub mark_line : FoundJournal → List ℕ
mark_line found =
    codes "mark " ++ mark_text (mark_at found.head (length found.kept.events)) ++ 10 ∷ []

-- the mark of the store was written, and nothing else
pub record IsMarkWritten (reads : Host) (folder : List ℕ) (old new : Option (List ℕ)) : Type 0
  where
    pub found : FoundJournal
    pub is_found : IsJournalAt reads folder found
    pub written : Appends old new (mark_line found)

-- why no mark is written: by the journal; or by memory or the writer, if the journal is read
pub data IsMarkFault (reads : Host) (folder : List ℕ) (fault : Fault) : Type 0 where
  by_journal : IsJournalFault reads folder fault → IsMarkFault reads folder fault
  by_writing : (found : FoundJournal) → IsJournalAt reads folder found
      → IsAuditFault IsWritingFault fault → IsMarkFault reads folder fault

-- how the printing of a mark ends
abbrev pub IsMarkEnd : Host → List ℕ → Option (List ℕ) → Option (List ℕ) → Result Bool Fault
    → Type 0
IsMarkEnd reads folder old new (Ok true) = IsMarkWritten reads folder old new
IsMarkEnd reads folder old new (Ok false) = ⊥
IsMarkEnd reads folder old new (Err fault) = IsMarkFault reads folder fault × KeepsAt fault old new

-- how what is asked for ends
abbrev pub IsTaskEnd : Host → Option (List ℕ) → Task → Option (List ℕ) → Option (List ℕ)
    → Result Bool Fault → Type 0
IsTaskEnd reads input (tasks.Audit asked) old new end = IsAuditEnd reads input asked old new end
IsTaskEnd reads input (tasks.Mark folder) old new end = IsMarkEnd reads folder.now old new end

-- how words that `clap` takes end: as what they ask for, or by want of memory before it is begun
pub data IsEnd (aim : Aim) (reads : Host) (input : Option (List ℕ)) (words : List Text)
    (old new : Option (List ℕ)) (end : Result Bool Fault) : Type 0 where
  by_task : (task : Task) → IsTaskBy aim words task → IsTaskEnd reads input task old new end
      → IsEnd aim reads input words old new end
  by_memory : end ≡ Err (Audit faults.Memory) → Keeps old new
      → IsEnd aim reads input words old new end

-- how words that `clap` does not take may end: the text that they ask for was written; or by a
-- fault
abbrev pub IsNoTask : Aim → List Text → Result Bool Fault → Type 0
IsNoTask aim words (Ok true) = audits.AskForText (app_for aim) words
IsNoTask aim words (Ok false) = ⊥
IsNoTask aim words (Err (Audit fault)) = audits.IsWordsFault (app_for aim) words fault
IsNoTask aim words (Err fault) = ⊥

-- the exit status of an end
abbrev pub status_at : Result Bool Fault → ℕ
status_at (Ok true) = 0
status_at (Ok false) = 1
status_at (Err fault) = status_of fault

-- the line of a fault was written, or the writer failed; of an end without a fault nothing was
abbrev pub IsTold : {E : Type 0} → Result Bool Fault → Result (Unit {0}) E → Option (List ℕ)
    → Option (List ℕ) → Type 0
IsTold (Ok is_right) told old new = IsOk told × Keeps old new
IsTold (Err fault) told old new = OnOk told (IfSome (line_of fault) (Appends old new))

-- Words that want this of a store, and that `clap` takes, end as what they ask for, and others as
-- nothing of it. The exit status says which end it is, and a fault was told.
pub record HasEnded (aim : Aim) (reads : Host) (input : Option (List ℕ)) (words : List Text)
    (old new told_old told_new : Option (List ℕ)) (ending : Ending) : Type 0 where
  pub end : Result Bool Fault
  pub task : AreTaken aim words → IsEnd aim reads input words old new end
  pub no_task : (AreTaken aim words → ⊥) → IsNoTask aim words end
  pub status : ending.status ≡ status_at end
  pub told : IsTold end ending.told told_old told_new

-- words that name no store end as an audit over directories
abbrev pub HasRun : Option Aim → Host → Option (List ℕ) → List Text → Option (List ℕ)
    → Option (List ℕ) → Option (List ℕ) → Option (List ℕ) → Ending → Type 0
HasRun None reads input words old new told_old told_new ending =
    audits.HasEnded reads input words old new told_old told_new ending
HasRun (Some aim) reads input words old new told_old told_new ending =
    HasEnded aim reads input words old new told_old told_new ending
