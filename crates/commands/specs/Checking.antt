-- What `check` says of directories, and in which lines.
use Rattle.std.specs.Prelude.{◌≡◌, ℕ, List, ◌∷◌, ◌++◌, Bool, true, false, map, Option, codes}
use Rattle.std.specs.Prelude.{decimal, string_bytes, if◌then◌else◌}
use Rattle.std.specs.List.{AllByRecursion, flat_map, list_any}
use Rattle.std.specs.Io.KnownBytes.{Appends}
use Rattle.commands.specs.Judging.{IsJudged}
use Rattle.commands.specs.Reading.{Host, Files, AreFilesAt, IsUnread}
use Rattle.commands.specs.Sending.{AppendsPrefix}
use Rattle.commands.specs.declared.fault.Fault.{Fault}
use Rattle.commands.specs.declared.fault.Fault.TheVariants.{CannotRead, CannotWrite, Memory}
use Rattle.commands.specs.declared.judgement.Judgement.{Judgement}
use Rattle.commands.specs.declared.judgement.Judgement.TheVariants as judgement
use Rattle.commands.specs.declared.check.Outcome.{Outcome}
use Rattle.commands.specs.declared.check.Outcome.TheVariants as outcome
use Rattle.block.specs.Codes.{code_of}

-- what a line says of a judgement
abbrev pub judgement_text : Judgement → List ℕ
judgement_text (judgement.Sound series samples) =
    codes "ok " ++ decimal series ++ codes " series " ++ decimal samples ++ codes " samples"
judgement_text (judgement.Refused error) = codes "refused " ++ code_of error

-- the line of a directory
abbrev pub judgement_line : List ℕ → Judgement → List ℕ
judgement_line directory judgement =
    directory ++ (codes ": " ++ (judgement_text judgement ++ codes "\n"))

-- what the files of a directory, each of them whole, are judged to be
pub record IsJudgedAt (reads : Host) (directory : List ℕ) (judgement : Judgement) : Type 0 where
  pub files : Files
  pub found : AreFilesAt reads directory files
  pub judged : IsJudged files judgement

-- a directory with its judgement
abbrev pub Judged : Type 0
Judged = List ℕ × Judgement

-- the judgement is a refusal
abbrev pub is_refused : Judgement → Bool
is_refused (judgement.Sound series samples) = false
is_refused (judgement.Refused error) = true

-- all are blocks, or some are refused
abbrev pub outcome_of : List Judged → Outcome
outcome_of judged = if list_any (λ j. is_refused j.1) judged then outcome.Refused else outcome.Done

-- exactly the lines of these directories were written, in this order
pub record IsChecked (reads : Host) (directories : List (List ℕ)) (old new : Option (List ℕ))
    (outcome : Outcome) : Type 0 where
  pub judged : List Judged
  pub order : map (λ j. j.0) judged ≡ directories
  pub each : AllByRecursion (λ (j : Judged). IsJudgedAt reads j.0 j.1) judged
  pub written : Appends old new (flat_map (λ j. judgement_line j.0 j.1) judged)
  pub outcome_is : outcome ≡ outcome_of judged

-- exactly the lines of the directories before some place were written
pub record IsBegun (reads : Host) (directories : List (List ℕ))
    (old new : Option (List ℕ)) : Type 0 where
  pub before : List (List ℕ)
  pub rest : List (List ℕ)
  pub order : directories ≡ before ++ rest
  pub outcome : Outcome
  pub checked : IsChecked reads before old new outcome

-- exactly the lines of the directories before one of which a file cannot be read
pub record IsUnreadCheck (reads : Host) (directories : List (List ℕ)) (old new : Option (List ℕ))
    (path : List ℕ) : Type 0 where
  pub before : List (List ℕ)
  pub directory : List ℕ
  pub after : List (List ℕ)
  pub order : directories ≡ before ++ directory ∷ after
  pub outcome : Outcome
  pub checked : IsChecked reads before old new outcome
  pub unread : IsUnread reads directory path

-- where the writer failed, a prefix of the right line of a directory was written
abbrev pub IsCutAt : Host → List ℕ → Option (List ℕ) → Option (List ℕ) → Fault → Type 0
IsCutAt reads directory old new CannotWrite =
    (judgement : Judgement) × IsJudgedAt reads directory judgement
    × AppendsPrefix old new (judgement_line directory judgement)
IsCutAt reads directory old new fault = Unit {0}

-- a prefix of the lines of the first directories was written, each of them judged
pub record IsCutShort (reads : Host) (directories : List (List ℕ))
    (old new : Option (List ℕ)) : Type 0 where
  pub judged : List Judged
  pub rest : List (List ℕ)
  pub order : directories ≡ map (λ j. j.0) judged ++ rest
  pub each : AllByRecursion (λ (j : Judged). IsJudgedAt reads j.0 j.1) judged
  pub written : AppendsPrefix old new (flat_map (λ j. judgement_line j.0 j.1) judged)

-- why a check ends before it is done, and what was written by then
abbrev pub IsCheckFault : Host → List (List ℕ) → Option (List ℕ) → Option (List ℕ) → Fault → Type 0
IsCheckFault reads directories old new (CannotRead path) =
    IsUnreadCheck reads directories old new (string_bytes path)
IsCheckFault reads directories old new Memory = IsBegun reads directories old new
IsCheckFault reads directories old new CannotWrite = IsCutShort reads directories old new
IsCheckFault reads directories old new other = ⊥
