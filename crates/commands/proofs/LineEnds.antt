-- How a line ends says how the words end.
use Rattle.std.proofs.Common.{◌≡◌, ℕ, List, [], Option, None, Some, Result, Ok, Err, refl, inl, inr}
use Rattle.std.specs.Prelude.{◌⊎◌}
use Rattle.std.specs.Borrow.{Bor}
use Rattle.std.specs.Io.KnownBytes.{Keeps}
use Rattle.clap.specs.Words.{Text}
use Rattle.commands.specs.Checking.{IsBegun}
use Rattle.commands.specs.Lines.{IsLineOf}
use Rattle.commands.specs.Reading.{Host, paths_of}
use Rattle.commands.specs.DemoAnswer.{by_writing}
use Rattle.commands.specs.Selecting.{KeepsAt, by_selection}
use Rattle.commands.specs.ServingRuns.{IsFaultOf, by_opening, by_folder, by_store}
use Rattle.commands.specs.Running.{IsTaken, IsLineFault, IsLineEnd, IsEnd, IsEarlyLine, KeepsAtEnd}
use Rattle.commands.specs.Running.{status_at}
use Rattle.commands.specs.declared.command.Serving.{Serving}
use Rattle.commands.specs.declared.command.Line.{Line}
use Rattle.commands.specs.declared.command.Line.TheVariants.{Demo, Select, Check, Serve, Journal}
use Rattle.commands.specs.declared.command.Line.TheVariants.{Backup}
use Rattle.commands.specs.declared.fault.Fault.{Fault}
use Rattle.commands.specs.declared.fault.Fault.TheVariants as fault
use Rattle.commands.specs.declared.check.Outcome.{Outcome}
use Rattle.commands.specs.declared.check.Outcome.TheVariants.{Done, Refused}
use Rattle.commands.proofs.Checks.{none_checked}

keeps_itself : (old : Option (List ℕ)) → Keeps old old
keeps_itself None = tt
keeps_itself (Some xs) = refl

-- a writer that was not used holds what it held
pub unused : (fault : Fault) (old : Option (List ℕ)) → KeepsAt fault old old
unused (fault.Words error) old = keeps_itself old
unused (fault.Refused refusal) old = keeps_itself old
unused (fault.CannotRead path) old = keeps_itself old
unused fault.CannotWrite old = tt
unused (fault.CannotWriteAt path) old = keeps_itself old
unused (fault.Locked folder holder) old = keeps_itself old
unused (fault.CannotListen port) old = keeps_itself old
unused fault.NoListener old = keeps_itself old
unused fault.NoThread old = keeps_itself old
unused fault.Memory old = keeps_itself old

-- no line of any directory was written
pub none_begun : (reads : Host) (directories : List (List ℕ)) (old : Option (List ℕ))
    → IsBegun reads directories old old
none_begun reads directories old = record {
  before = [];
  rest = directories;
  order = refl;
  outcome = Done;
  checked = none_checked reads old;
}

memory_of : (folder : Option (Bor (List ℕ))) (reads : Host) (directories : List (List ℕ))
    (serving : Serving) (old : Option (List ℕ))
    → IsFaultOf folder reads directories serving old old fault.Memory
memory_of None reads directories serving old = by_opening tt (keeps_itself old)
memory_of (Some folder) reads directories serving old = inr (by_folder tt (keeps_itself old))

memory_fault : (reads : Host) (line : Line) (old : Option (List ℕ))
    → IsLineFault reads line old old fault.Memory
memory_fault reads Demo old = (by_writing tt, keeps_itself old)
memory_fault reads (Select s r) old = (by_selection tt, keeps_itself old)
memory_fault reads (Check r) old = none_begun reads (paths_of r.directories.items) old
memory_fault reads (Serve serving r) old =
    by_store (memory_of serving.folder reads (paths_of r.directories.items) serving old)
memory_fault reads (Journal path) old = (tt, keeps_itself old)
memory_fault reads (Backup from out) old = (inl (inl tt), keeps_itself old)

-- a line may end by want of memory before it begins
pub end_without_memory : (reads : Host) (words : List Text) (old : Option (List ℕ)) → IsTaken words
    → IsEnd reads words old old (Err fault.Memory)
end_without_memory reads words old taken =
    record { line = taken.line; is = taken.is; ends = memory_fault reads taken.line old }

-- the end of a line is that of its words
pub end_of_line : (reads : Host) (words : List Text) (line : Line) (old new : Option (List ℕ))
    (end : Result Outcome Fault) → IsLineOf words line
    → IsLineEnd reads line old new end → IsEnd reads words old new end
end_of_line reads words line old new end is ends = record { line = line; is = is; ends = ends }

-- what the writer holds at the end of a line
pub kept_at_end : (reads : Host) (words : List Text) (line : Line) (old new : Option (List ℕ))
    (end : Result Outcome Fault) → IsLineOf words line
    → IsLineEnd reads line old new end → IsEarlyLine words ⊎ KeepsAtEnd old new end
kept_at_end reads words (Check r) old new end is ends =
    inl (record { line = Check r; is = is; tells = tt })
kept_at_end reads words (Serve serving r) old new end is ends =
    inl (record { line = Serve serving r; is = is; tells = tt })
kept_at_end reads words Demo old new (Ok Done) is ends = inr tt
kept_at_end reads words Demo old new (Ok Refused) is ends = absurd ends
kept_at_end reads words Demo old new (Err fault) is ends = inr ends.1
kept_at_end reads words (Select s r) old new (Ok Done) is ends = inr tt
kept_at_end reads words (Select s r) old new (Ok Refused) is ends = absurd ends
kept_at_end reads words (Select s r) old new (Err fault) is ends = inr ends.1
kept_at_end reads words (Journal path) old new (Ok Done) is ends = inr tt
kept_at_end reads words (Journal path) old new (Ok Refused) is ends = absurd ends
kept_at_end reads words (Journal path) old new (Err fault) is ends = inr ends.1
kept_at_end reads words (Backup from out) old new (Ok Done) is ends = inr tt
kept_at_end reads words (Backup from out) old new (Ok Refused) is ends = absurd ends
kept_at_end reads words (Backup from out) old new (Err fault) is ends = inr ends.1

-- what is written at an end, by its exit status
pub written_at_status : (words : List Text) (old new : Option (List ℕ))
    (end : Result Outcome Fault) (status : ℕ)
    → status ≡ status_at end → IsEarlyLine words ⊎ KeepsAtEnd old new end
    → (status ≡ 0) ⊎ ((status ≡ 3) ⊎ (IsEarlyLine words ⊎ Keeps old new))
written_at_status words old new end status is (inl early) = inr (inr (inl early))
written_at_status words old new (Ok Done) status is (inr kept) = inl is
written_at_status words old new (Ok Refused) status is (inr kept) = inr (inr (inr kept))
written_at_status words old new (Err (fault.Words error)) status is (inr kept) =
    inr (inr (inr kept))
written_at_status words old new (Err (fault.Refused refusal)) status is (inr kept) =
    inr (inr (inr kept))
written_at_status words old new (Err (fault.CannotRead path)) status is (inr kept) =
    inr (inr (inr kept))
written_at_status words old new (Err fault.CannotWrite) status is (inr kept) = inr (inl is)
written_at_status words old new (Err (fault.CannotWriteAt path)) status is (inr kept) =
    inr (inr (inr kept))
written_at_status words old new (Err (fault.Locked folder holder)) status is (inr kept) =
    inr (inr (inr kept))
written_at_status words old new (Err (fault.CannotListen port)) status is (inr kept) =
    inr (inr (inr kept))
written_at_status words old new (Err fault.NoListener) status is (inr kept) = inr (inl is)
written_at_status words old new (Err fault.NoThread) status is (inr kept) = inr (inl is)
written_at_status words old new (Err fault.Memory) status is (inr kept) = inr (inr (inr kept))
