-- What is claimed of a reply that was judged over a kept store.
use Rattle.std.specs.Prelude.{◌≡◌, ◌-◌, ◌==◌, ◌&&◌, ℕ, Bool, true, false, List, [], ◌∷◌, length}
use Rattle.std.specs.Prelude.{if◌then◌else◌, Option, option_map}
use Rattle.std.specs.List.{find, flat_map, list_any}
use Rattle.postings.specs.declared.part_name.PartName.{PartName}
use Rattle.whole_audit.specs.Grading.{is_right}
use Rattle.whole_audit.specs.StateLines.{are_right_lines}
use Rattle.whole_audit.specs.declared.grade.Grade.{Grade}
use Rattle.whole_audit.specs.declared.grade.Grade.TheVariants as grades
use Rattle.whole_audit.specs.declared.lines.StateLine.{StateLine}
use Rattle.whole_audit.specs.declared.lines.StateSubject.{StateSubject}
use Rattle.whole_audit.specs.declared.lines.StateSubject.TheVariants as of
use Rattle.page_claims.specs.Claiming.{IsClaimed, is_shown}
use Rattle.page_claims.specs.Judging.{names_of, same_name, names_in_order}
use Rattle.page_claims.specs.declared.claim.Completeness.{Completeness}
use Rattle.page_claims.specs.declared.claim.Completeness.TheVariants.{Judged, Certified, NotShown}
use Rattle.page_claims.specs.declared.told.Told.{Told}
use Rattle.state_claims.specs.declared.verdicts.StateSaid.{StateSaid}

-- THE LINES

-- a line speaks of a part
abbrev pub is_of : PartName → StateSubject → Bool
is_of name (of.Part other) = same_name name other
is_of name of.Parts = false
is_of name of.Rows = false

-- what is said of a part, by the first line that speaks of it
abbrev pub grade_of : List StateLine → PartName → Option Grade
grade_of lines name =
    option_map (λ (line : StateLine). line.grade)
    (find (λ (line : StateLine). is_of name line.subject) lines)

-- whether a judge found what is said of a part right: valid, numbered otherwise, or rightly skipped
abbrev pub is_found_right : List StateLine → PartName → Bool
is_found_right lines name =
    list_any (λ (line : StateLine). is_of name line.subject && is_right line.grade) lines

-- the parts of which no line says so
abbrev pub unjudged_name : List StateLine → PartName → List PartName
unjudged_name lines name = if is_found_right lines name then [] else name ∷ []

abbrev pub unjudged_in : List StateLine → List PartName → List PartName
unjudged_in lines names = flat_map (unjudged_name lines) names

-- the part of a line that was judged under other numbers
abbrev pub part_in : StateSubject → List PartName
part_in (of.Part name) = name ∷ []
part_in of.Parts = []
part_in of.Rows = []

abbrev pub is_otherwise : Grade → Bool
is_otherwise grades.NumberedOtherwise = true
is_otherwise grades.Valid = false
is_otherwise grades.Skipped = false
is_otherwise (grades.Flawed flaw) = false
is_otherwise grades.Misnamed = false

abbrev pub otherwise_in : StateLine → List PartName
otherwise_in line = if is_otherwise line.grade then part_in line.subject else []

-- the blocks that were judged for what is missing, and not for how few their intervals are: their
-- series had other numbers than their files have
abbrev pub otherwise_of : List StateLine → List PartName
otherwise_of lines = flat_map otherwise_in lines

-- THE CLAIM

-- the reply is right of the state: the judge found one of which all that is said of parts is right,
-- and no line names a flaw
abbrev pub is_right_of_state : StateSaid → Bool
is_right_of_state said = said.is_found && are_right_lines said.lines.now

-- the reply names each block once, in order, and then the head, and a judge found each right
abbrev pub is_whole : List PartName → List PartName → Bool
is_whole names unjudged = names_in_order (length names - 1) names && length unjudged == 0

-- how far a reply shows that no series is missing, of which this is claimed by itself
abbrev pub completeness_over : Completeness → StateSaid → List PartName → Completeness
completeness_over alone said names =
    if is_shown alone && is_right_of_state said
    then (if is_whole names (unjudged_in said.lines.now names) then Judged else Certified)
    else NotShown

-- What is claimed of a reply that was judged over a store: nothing, if its own checks do not hold,
-- or if it is right of no state; that no series is missing, if it names each block once, in order,
-- and then the head, and a judge found each right; and else that by its certificates.
pub record IsStateClaimed (matchers : ℕ) (told : Told) (said : StateSaid)
    (completeness : Completeness) : Type 0 where
  pub alone : Completeness
  pub by_itself : IsClaimed matchers told [] [] alone
  pub over : completeness ≡ completeness_over alone said (names_of told)
