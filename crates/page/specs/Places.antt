-- What the lines of a judge say of the part at a place of a reply.
use Rattle.std.specs.Prelude.{ℕ, ◌&&◌, Bool, true, false, List, Option, None, Some, option_map}
use Rattle.std.specs.Prelude.{slice_get, if◌then◌else◌}
use Rattle.std.specs.List.{find}
use Rattle.std.specs.Option.{option_flatten, option_or}
use Rattle.postings.specs.declared.part_name.PartName.{PartName}
use Rattle.postings.specs.declared.part_name.PartName.TheVariants.{Block}
use Rattle.auditor.specs.declared.judgement.BlockTable.{BlockTable}
use Rattle.auditor.specs.declared.judgement.Judgement.{Judgement}
use Rattle.auditor.specs.declared.judgement.Judgement.TheVariants as judgements
use Rattle.auditor.specs.declared.judgement.Line.{Line}
use Rattle.auditor.specs.Judgements.{is_fault}
use Rattle.whole_audit.specs.declared.grade.Grade.{Grade}
use Rattle.whole_audit.specs.declared.grade.Grade.TheVariants as grades
use Rattle.whole_audit.specs.declared.lines.StateLine.{StateLine}
use Rattle.page_claims.specs.Judging.{is_found_silent, is_of, is_skip}
use Rattle.state_claims.specs.Claiming.{is_of as is_of_state}
use Rattle.state_claims.specs.declared.verdicts.StateSaid.{StateSaid}
use Rattle.page.specs.declared.judgements.Finding.{Finding}
use Rattle.page.specs.declared.judgements.Finding.TheVariants.{Valid, NumberedOtherwise, Flawed}

-- what a line says of a part: nothing, if there is no line, or if it speaks of something else
abbrev pub judgement_in : PartName → Option Line → Option Judgement
judgement_in name None = None
judgement_in name (Some line) = if is_of name line.subject then Some line.judgement else None

abbrev pub own_judgement : List Line → ℕ → PartName → Option Judgement
own_judgement lines at name = judgement_in name (slice_get lines at)

-- the first fault of a part that a line names
abbrev pub first_fault : List Line → PartName → Option Judgement
first_fault lines name =
    option_map (λ (line : Line). line.judgement)
    (find (λ (line : Line). is_of name line.subject && is_fault line.judgement) lines)

-- What is said of the part at a place: what the line at that place says of it, since there is a
-- line for each part, in order. If the lines are of refused files alone, it is the fault that is
-- named.
abbrev pub judgement_at : List Line → ℕ → PartName → Option Judgement
judgement_at lines at name = option_or (own_judgement lines at name) (first_fault lines name)

-- the same of a line over a state of a store
abbrev pub grade_in : PartName → Option StateLine → Option Grade
grade_in name None = None
grade_in name (Some line) = if is_of_state name line.subject then Some line.grade else None

abbrev pub grade_at : List StateLine → ℕ → PartName → Option Grade
grade_at lines at name = grade_in name (slice_get lines at)

-- what the auditor found of a part: nothing, if it passed it over
abbrev pub finding_in : Judgement → Option Finding
finding_in judgements.Valid = Some Valid
finding_in judgements.Skipped = None
finding_in (judgements.Flawed flaw) = Some Flawed
finding_in (judgements.Refused code) = Some Flawed

-- the same of a judge over a state of a store
abbrev pub finding_by : Grade → Option Finding
finding_by grades.Valid = Some Valid
finding_by grades.NumberedOtherwise = Some NumberedOtherwise
finding_by grades.Skipped = None
finding_by (grades.Flawed flaw) = Some Flawed
finding_by grades.Misnamed = Some Flawed

-- what was found of the part at a place: over a state, if there is one, or else by the auditor
abbrev pub finding_at : Option StateSaid → List Line → ℕ → PartName → Option Finding
finding_at None lines at name =
    option_flatten (option_map finding_in (judgement_at lines at name))
finding_at (Some said) lines at name =
    option_flatten (option_map finding_by (grade_at said.lines.now at name))

abbrev pub is_said_skipped : Option Judgement → Bool
is_said_skipped None = false
is_said_skipped (Some judgement) = is_skip judgement

abbrev pub is_skip_grade : Option Grade → Bool
is_skip_grade None = false
is_skip_grade (Some grades.Valid) = false
is_skip_grade (Some grades.NumberedOtherwise) = false
is_skip_grade (Some grades.Skipped) = true
is_skip_grade (Some (grades.Flawed flaw)) = false
is_skip_grade (Some grades.Misnamed) = false

-- whether it was found that the query selects nothing of a block that was skipped at a place
abbrev pub is_silent_at : Option StateSaid → List BlockTable → List Line → ℕ → ℕ → Bool
is_silent_at None tables lines at number =
    is_said_skipped (judgement_at lines at (Block number)) && is_found_silent tables lines number
is_silent_at (Some said) tables lines at number =
    is_skip_grade (grade_at said.lines.now at (Block number))
