-- How the program ends.
use Rattle.std.specs.Prelude.{◌≡◌, ℕ, Bool, true, false, List, Option, Result, Ok, Err, IsOk}
use Rattle.std.specs.Prelude.{OnOk, IfSome}
use Rattle.std.specs.Io.KnownBytes.{Appends, Keeps}
use Rattle.clap.specs.Words.{Text}
use Rattle.page_claims.specs.Claiming as claims
use Rattle.page.specs.declared.write.Page.{Page}
use Rattle.audit_command.specs.Reading.{Host}
use Rattle.audit_command.specs.Running as audits
use Rattle.audit_command.specs.declared.fault.Fault.TheVariants as faults
use Rattle.audit_command.specs.declared.program.Ending.{Ending}
use Rattle.explain.specs.Asking.{AreTaken, IsAskedBy, explain_app}
use Rattle.explain.specs.Faults.{status_of, line_of}
use Rattle.explain.specs.Showing.{IsAnswer, IsAnswerFault}
use Rattle.explain.specs.declared.command.Asked.{Asked}
use Rattle.explain.specs.declared.fault.Fault.{Fault}
use Rattle.explain.specs.declared.fault.Fault.TheVariants.{Audit, NoSeries, NoMeaning, Beside}
use Rattle.explain.specs.declared.fault.Fault.TheVariants.{Store}

-- the page was written, and nothing else; it claims that no series is missing, or it does not
pub record IsWritten (reads : Host) (input : Option (List ℕ)) (asked : Asked)
    (old new : Option (List ℕ)) (is_shown : Bool) : Type 0 where
  pub page : Page
  pub is : IsAnswer reads input asked page
  pub written : Appends old new page.bytes.items
  pub claim : is_shown ≡ claims.is_shown page.claim.completeness

-- the writer holds what it held, unless it failed
abbrev pub KeepsAt : Fault → Option (List ℕ) → Option (List ℕ) → Type 0
KeepsAt (Audit fault) old new = audits.KeepsAt fault old new
KeepsAt NoSeries old new = Keeps old new
KeepsAt NoMeaning old new = Keeps old new
KeepsAt Beside old new = Keeps old new
KeepsAt (Store fault) old new = Keeps old new

-- how the making of a page ends
abbrev pub IsPageEnd : Host → Option (List ℕ) → Asked → Option (List ℕ) → Option (List ℕ)
    → Result Bool Fault → Type 0
IsPageEnd reads input asked old new (Ok is_shown) = IsWritten reads input asked old new is_shown
IsPageEnd reads input asked old new (Err fault) = IsAnswerFault reads input asked fault
    × KeepsAt fault old new

-- how words that `clap` takes end: as the page that they ask for, or by want of memory before it is
-- begun
pub data IsEnd (reads : Host) (input : Option (List ℕ)) (words : List Text)
    (old new : Option (List ℕ)) (end : Result Bool Fault) : Type 0 where
  by_page : (asked : Asked) → IsAskedBy words asked → IsPageEnd reads input asked old new end
      → IsEnd reads input words old new end
  by_memory : end ≡ Err (Audit faults.Memory) → Keeps old new → IsEnd reads input words old new end

-- how words that `clap` does not take may end: the text that they ask for was written; or by a
-- fault
abbrev pub IsNoPage : List Text → Result Bool Fault → Type 0
IsNoPage words (Ok true) = audits.AskForText explain_app words
IsNoPage words (Ok false) = ⊥
IsNoPage words (Err (Audit fault)) = audits.IsWordsFault explain_app words fault
IsNoPage words (Err fault) = ⊥

-- the exit status of an end
abbrev pub status_at : Result Bool Fault → ℕ
status_at (Ok true) = 0
status_at (Ok false) = 1
status_at (Err fault) = status_of fault

-- the line of a fault was written, or the writer failed; of an end without a fault nothing was
abbrev pub IsTold : {E : Type 0} → Result Bool Fault → Result (Unit {0}) E → Option (List ℕ)
    → Option (List ℕ) → Type 0
IsTold (Ok is_shown) told old new = IsOk told × Keeps old new
IsTold (Err fault) told old new = OnOk told (IfSome (line_of fault) (Appends old new))

-- Words that `clap` takes end as the page that they ask for, and others as no page. The exit status
-- says which end it is, and a fault was told.
pub record HasEnded (reads : Host) (input : Option (List ℕ)) (words : List Text)
    (old new told_old told_new : Option (List ℕ)) (ending : Ending) : Type 0 where
  pub end : Result Bool Fault
  pub page : AreTaken words → IsEnd reads input words old new end
  pub no_page : (AreTaken words → ⊥) → IsNoPage words end
  pub status : ending.status ≡ status_at end
  pub told : IsTold end ending.told told_old told_new
