-- How the lines of the program end.
use Rattle.std.specs.Prelude.{◌≡◌, ◌⊎◌, ℕ, pos, List, Option, Result, Ok, Err, IsOk, OnOk, IfSome}
use Rattle.std.specs.Io.KnownBytes.{Appends, Keeps}
use Rattle.clap.specs.Words.{IsAmong, Text, fault_of, kind_of}
use Rattle.clap.specs.declared.error.kind.ErrorKind.TheVariants.{DisplayHelp, DisplayVersion}
use Rattle.commands.specs.Backing.{IsBackedUp, IsBackupFault}
use Rattle.commands.specs.Checking.{IsChecked, IsCheckFault}
use Rattle.commands.specs.Demo.{demo_events, demo_query}
use Rattle.commands.specs.DemoAnswer.{IsDemoFault, WritesAnswerAfter}
use Rattle.commands.specs.Faults.{status_of, line_of}
use Rattle.commands.specs.Lines.{AreNoCommandLine, AreRefusedByClap, AreTakenByClap, IsLineOf}
use Rattle.commands.specs.Lines.{querier_app}
use Rattle.commands.specs.Reading.{Host, paths_of}
use Rattle.commands.specs.Selecting.{IsSelectFault, KeepsAt, WritesSelection}
use Rattle.commands.specs.Listing.{IsListed, IsListFault}
use Rattle.commands.specs.ServingRuns.{IsServing, IsServeFault}
use Rattle.commands.specs.declared.command.Line.{Line}
use Rattle.commands.specs.declared.command.Line.TheVariants.{Demo, Select, Check, Serve, Journal}
use Rattle.commands.specs.declared.command.Line.TheVariants.{Backup}
use Rattle.commands.specs.declared.fault.Fault.{Fault}
use Rattle.commands.specs.declared.fault.Fault.TheVariants as fault
use Rattle.commands.specs.declared.check.Outcome.{Outcome}
use Rattle.commands.specs.declared.check.Outcome.TheVariants.{Done, Refused}
use Rattle.commands.specs.declared.run.Ending.{Ending}

-- `clap` takes the words, and they are a line
pub record IsTaken (words : List Text) : Type 0 where
  pub by_clap : AreTakenByClap words
  pub line : Line
  pub is : IsLineOf words line

-- what a line asks for was written; the demo, a selection, a server, a list of a journal and a copy
-- end with their text alone
abbrev pub IsDone : Host → Line → Option (List ℕ) → Option (List ℕ) → Outcome → Type 0
IsDone reads Demo old new Done =
    WritesAnswerAfter demo_events (demo_query (pos 0) (pos 100)) old new
IsDone reads (Select s r) old new Done =
    WritesSelection reads (paths_of r.directories.items) s old new
IsDone reads (Check r) old new outcome =
    IsChecked reads (paths_of r.directories.items) old new outcome
IsDone reads (Serve serving r) old new Done =
    IsServing reads serving (paths_of r.directories.items) old new
IsDone reads (Journal path) old new Done = IsListed reads path.now old new
IsDone reads (Backup from out) old new Done = IsBackedUp out.now old new
IsDone reads line old new other = ⊥

-- why a line ends before it is done, and what was written by then
abbrev pub IsLineFault : Host → Line → Option (List ℕ) → Option (List ℕ) → Fault → Type 0
IsLineFault reads Demo old new fault = IsDemoFault fault × KeepsAt fault old new
IsLineFault reads (Select s r) old new fault =
    IsSelectFault reads (paths_of r.directories.items) s fault × KeepsAt fault old new
IsLineFault reads (Check r) old new fault =
    IsCheckFault reads (paths_of r.directories.items) old new fault
IsLineFault reads (Serve serving r) old new fault =
    IsServeFault reads (paths_of r.directories.items) serving old new fault
IsLineFault reads (Journal path) old new fault =
    IsListFault reads path.now fault × KeepsAt fault old new
IsLineFault reads (Backup from out) old new fault =
    IsBackupFault from.now out.now fault × KeepsAt fault old new

-- how a line ends
abbrev pub IsLineEnd : Host → Line → Option (List ℕ) → Option (List ℕ)
    → Result Outcome Fault → Type 0
IsLineEnd reads line old new (Ok outcome) = IsDone reads line old new outcome
IsLineEnd reads line old new (Err fault) = IsLineFault reads line old new fault

-- the words are a line, and it ends so
pub record IsEnd (reads : Host) (words : List Text) (old new : Option (List ℕ))
    (end : Result Outcome Fault) : Type 0 where
  pub line : Line
  pub is : IsLineOf words line
  pub ends : IsLineEnd reads line old new end

-- the exit status of an end
abbrev pub status_at : Result Outcome Fault → ℕ
status_at (Ok Done) = 0
status_at (Ok Refused) = 1
status_at (Err fault) = status_of fault

-- how words that are no line may end: help or the version was written, or the words are at fault,
-- or memory or the writer failed
abbrev pub IsNoLine : Result Outcome Fault → Type 0
IsNoLine (Ok Done) = Unit {0}
IsNoLine (Err (fault.Words error)) = Unit {0}
IsNoLine (Err fault.CannotWrite) = Unit {0}
IsNoLine (Err fault.Memory) = Unit {0}
IsNoLine other = ⊥

-- how words that `clap` takes end where they are no line: the words are at fault, or memory failed
abbrev pub IsWordsFault : Result Outcome Fault → Type 0
IsWordsFault (Err (fault.Words error)) = Unit {0}
IsWordsFault (Err fault.Memory) = Unit {0}
IsWordsFault other = ⊥

-- the words ask for help or for the version
abbrev pub AskForText : List Text → Type 0
AskForText words = IsAmong DisplayHelp (fault_of querier_app words)
    ⊎ IsAmong DisplayVersion (fault_of querier_app words)

-- how words that `clap` refuses end: what they ask for was written, or the writer failed at it; or
-- they are at fault, in a way that `clap` finds in them; or memory failed
abbrev pub IsRefusedEnd : List Text → Result Outcome Fault → Type 0
IsRefusedEnd words (Ok Done) = AskForText words
IsRefusedEnd words (Err fault.CannotWrite) = AskForText words
IsRefusedEnd words (Err (fault.Words error)) =
    IsAmong (kind_of error) (fault_of querier_app words)
IsRefusedEnd words (Err fault.Memory) = Unit {0}
IsRefusedEnd words other = ⊥

-- the line of a fault was written, or the writer failed; of an end without a fault nothing was
abbrev pub IsTold : {E : Type 0} → Result Outcome Fault → Result (Unit {0}) E → Option (List ℕ)
    → Option (List ℕ) → Type 0
IsTold (Ok outcome) told old new = IsOk told × Keeps old new
IsTold (Err fault) told old new = OnOk told (IfSome (line_of fault) (Appends old new))

-- The words that are a line end as that line does, and others as no line may; words that `clap`
-- refuses end by what it finds in them. The exit status says which end it is, and a fault was told.
pub record HasEnded (reads : Host) (words : List Text)
    (old new told_old told_new : Option (List ℕ)) (ending : Ending) : Type 0 where
  pub end : Result Outcome Fault
  pub line : IsTaken words → IsEnd reads words old new end
  pub no_line : AreNoCommandLine words → IsNoLine end
  pub refused : AreTakenByClap words → AreNoCommandLine words → IsWordsFault end
  pub by_clap : AreRefusedByClap words → IsRefusedEnd words end
  pub status : ending.status ≡ status_at end
  pub told : IsTold end ending.told told_old told_new

-- the line is one of `check` or `serve`
abbrev pub TellsEarly : Line → Type 0
TellsEarly (Check r) = Unit {0}
TellsEarly (Serve serving r) = Unit {0}
TellsEarly other = ⊥

-- the words are a line of `check` or `serve`, which alone may write before they end otherwise than
-- done
pub record IsEarlyLine (words : List Text) : Type 0 where
  pub line : Line
  pub is : IsLineOf words line
  pub tells : TellsEarly line

-- the writer holds what it held, unless what was asked for was done or the writer failed
abbrev pub KeepsAtEnd : Option (List ℕ) → Option (List ℕ) → Result Outcome Fault → Type 0
KeepsAtEnd old new (Ok Done) = Unit {0}
KeepsAtEnd old new (Ok Refused) = Keeps old new
KeepsAtEnd old new (Err fault) = KeepsAt fault old new
