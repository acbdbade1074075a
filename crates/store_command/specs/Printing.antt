-- What is printed of a reply over a store.
use Rattle.std.specs.Prelude.{◌≡◌, ◌+◌, ◌&&◌, ◌++◌, ℕ, Bool, true, false, List, [], ◌∷◌}
use Rattle.std.specs.Prelude.{codes, decimal, is_some, string_bytes, if◌then◌else◌}
use Rattle.std.specs.List.{flat_map, list_any}
use Rattle.postings.specs.declared.part_name.PartName.TheVariants.{Block}
use Rattle.auditor.specs.Judgements as audits
use Rattle.auditor.specs.declared.judgement.BlockTable.{BlockTable}
use Rattle.auditor.specs.declared.judgement.BlockTable.TheVariants as tables
use Rattle.auditor.specs.declared.judgement.Judgement.TheVariants as judgements
use Rattle.auditor.specs.declared.judgement.Line.{Line}
use Rattle.auditor.specs.declared.judgement.Subject.TheVariants as subjects
use Rattle.whole_audit.specs.StateLines.{are_right_lines, state_line_text}
use Rattle.whole_audit.specs.declared.lines.StateLine.{StateLine}
use Rattle.store_audit.specs.declared.judging.StateReport.{StateReport}
use Rattle.store_command.specs.Marks.{first_of, mark_at, mark_text}
use Rattle.store_command.specs.declared.mark.Since.{Since}
use Rattle.store_command.specs.declared.mark.Since.TheVariants.{Anywhere, Held, Rolled}
use Rattle.store_command.specs.declared.report.Report.{Report}

-- a state was found of which all that is said of parts is right, and no line has a flaw
abbrev pub is_right : StateReport → Bool
is_right said = is_some said.found && are_right_lines said.lines.items

-- the lines as a text, each ended by a line feed
abbrev pub lines_text : List StateLine → List ℕ
lines_text lines = flat_map (λ line. state_line_text line ++ 10 ∷ []) lines

-- `at event 1234 of 1300, mark 5d3163ef:1234`: behind how many events the state is of which the
-- reply is right, how many there are, and the mark of that state
abbrev pub right_text : ℕ → StateReport → List ℕ
right_text head said =
    codes "at event " ++ decimal said.told ++ codes " of " ++ decimal said.events
    ++ codes ", mark " ++ mark_text (mark_at head said.told) ++ 10 ∷ []

-- what else may be so, if no mark says that the reply is of a state behind the head
abbrev pub note_of : Since → List ℕ
note_of Anywhere = codes "or the reply is from before the head" ++ 10 ∷ []
note_of (Held count) = []
note_of (Rolled mark) = []

-- `at no event from 0 to 1300, told of event 1300, mark 5d3163ef:1300`: from where on a state was
-- sought, and the state of which the lines are
abbrev pub wrong_text : Since → ℕ → StateReport → List ℕ
wrong_text since head said =
    codes "at no event from " ++ decimal (first_of since) ++ codes " to " ++ decimal said.events
    ++ codes ", told of event " ++ decimal said.told
    ++ codes ", mark " ++ mark_text (mark_at head said.told) ++ 10 ∷ [] ++ note_of since

abbrev pub ending_text : Since → ℕ → StateReport → List ℕ
ending_text since head said =
    if is_right said then right_text head said else wrong_text since head said

-- what is printed is the lines over the state, and which state that is
pub record IsTold (since : Since) (head : ℕ) (said : StateReport) (report : Report) : Type 0 where
  pub text : string_bytes report.text
      ≡ lines_text said.lines.items ++ ending_text since head said
  pub right : report.is_right ≡ is_right said

-- whether the files of a block are refused
abbrev pub is_refused : BlockTable → Bool
is_refused (tables.Walked part) = false
is_refused (tables.Refused code) = true

abbrev pub has_refused : List BlockTable → Bool
has_refused known = list_any is_refused known

-- the line of the block of this number, if its files are refused
abbrev pub refused_line : ℕ → BlockTable → List Line
refused_line number (tables.Walked part) = []
refused_line number (tables.Refused code) = record {
  subject = subjects.Part (Block number);
  judgement = judgements.Refused code;
} ∷ []

-- a line for each block whose files are refused, of blocks numbered from this number on
abbrev pub refused_lines : ℕ → List BlockTable → List Line
refused_lines number [] = []
refused_lines number (table ∷ known) =
    refused_line number table ++ refused_lines (number + 1) known

-- what is printed is these lines, and no state is sought
pub record IsRefusedReport (known : List BlockTable) (report : Report) : Type 0 where
  pub text : string_bytes report.text ≡ audits.lines_text (refused_lines 0 known)
  pub right : report.is_right ≡ false
