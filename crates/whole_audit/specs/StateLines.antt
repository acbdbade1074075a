-- What is said, in lines, of a reply that is held against one state.
use Rattle.std.specs.Prelude.{◌≡◌, ◌⊎◌, ◌++◌, ℕ, Bool, true, false, List, [], ◌∷◌, Option, None, Some, length, map}
use Rattle.std.specs.Prelude.{slice_get, codes}
use Rattle.std.specs.List.{AllZip, flat_map, list_all, list_any}
use Rattle.labels.specs.Rows.{Row, AreRows}
use Rattle.labels.specs.Parts.{Part}
use Rattle.matchers.specs.Views.{QueryView}
use Rattle.postings.specs.declared.part_name.PartName.{PartName}
use Rattle.postings.specs.declared.part_name.PartName.TheVariants.{Block, Head}
use Rattle.cover.specs.declared.part_cover.PartAnswer.{PartAnswer}
use Rattle.reply_reader.specs.Replies.{name_text}
use Rattle.reply_reader.specs.declared.reply.ToldPart.{ToldPart}
use Rattle.reply_reader.specs.declared.reply.Reply.{Reply}
use Rattle.auditor.specs.declared.flaw.Flaw.TheVariants.{WrongMerge}
use Rattle.auditor.specs.Judgements.{name_of, unnamed, answers_of}
use Rattle.auditor.specs.Listing.{last_listed}
use Rattle.whole_audit.specs.declared.grade.Grade.{Grade}
use Rattle.whole_audit.specs.declared.grade.Grade.TheVariants.{Valid, NumberedOtherwise, Skipped, Flawed, Misnamed}
use Rattle.whole_audit.specs.declared.lines.StateSubject.{StateSubject}
use Rattle.whole_audit.specs.declared.lines.StateSubject.TheVariants as of
use Rattle.whole_audit.specs.declared.lines.StateLine.{StateLine}
use Rattle.whole_audit.specs.PartNames.{part_names}
use Rattle.whole_audit.specs.Grading.{grade_text, is_right, IsGradeOf, IsGradeOfSkip, is_head}

abbrev pub state_subject_text : StateSubject → List ℕ
state_subject_text (of.Part name) = name_text name
state_subject_text of.Parts = codes "parts"
state_subject_text of.Rows = codes "rows"

-- `block 1: valid, numbered otherwise`
abbrev pub state_line_text : StateLine → List ℕ
state_line_text line = state_subject_text line.subject ++ codes ": " ++ grade_text line.grade

-- the part of this name, if the state has it
abbrev pub part_of : List Part → Part → PartName → Option Part
part_of blocks head (Block n) = slice_get blocks n
part_of blocks head Head = Some head

-- what is said of a part: of one that the state does not have, that it is skipped
abbrev pub IsGradeIn : Option Part → QueryView → ToldPart → Grade → Type 0
IsGradeIn None query told grade = grade ≡ Skipped
IsGradeIn (Some part) query told grade = IsGradeOf query part told grade

-- the line of a part of the reply
abbrev pub IsStatePartLine : List Part → Part → QueryView → ToldPart → StateLine → Type 0
IsStatePartLine blocks head query told line =
    (line.subject ≡ of.Part (name_of told))
    × IsGradeIn (part_of blocks head (name_of told)) query told line.grade

-- the line of a part of the state that no part of the reply names
abbrev pub IsStateLeftLine : Part → QueryView → PartName → StateLine → Type 0
IsStateLeftLine part query name line =
    (line.subject ≡ of.Part name) × IsGradeOfSkip query part line.grade

-- the line of the block of a number that no part of the reply names
abbrev pub IsLeftBlockLine : List Part → QueryView → ℕ → StateLine → Type 0
IsLeftBlockLine blocks query number line =
    (part : Part) → slice_get blocks number ≡ Some part
    → IsStateLeftLine part query (Block number) line

-- whether something is said of the head
abbrev pub has_head : List ToldPart → Bool
has_head told = list_any (λ (t : ToldPart). is_head (name_of t)) told

-- the lines of the head: one where nothing is said of it
abbrev pub AreLeftHeadLines : Bool → Part → QueryView → List StateLine → Type 0
AreLeftHeadLines true head query lines = lines ≡ []
AreLeftHeadLines false head query lines =
    (line : StateLine) × (lines ≡ line ∷ []) × IsStateLeftLine head query Head line

-- the lines of the names: one, with `F11`, where they are not those of the state's parts
abbrev pub AreNamesLines : List ToldPart → ℕ → List StateLine → Type 0
AreNamesLines told blocks lines =
    ((map name_of told ≡ part_names blocks) × (lines ≡ []))
    ⊎ ((map name_of told ≡ part_names blocks → ⊥)
    × (lines ≡ record { subject = of.Parts; grade = Misnamed } ∷ []))

-- what is said of the rows of all: that they are those that the answers list, or `F10`
abbrev pub IsGradeOfRows : List PartAnswer → List Row → Grade → Type 0
IsGradeOfRows answers rows Valid = AreRows rows (last_listed answers)
IsGradeOfRows answers rows NumberedOtherwise = ⊥
IsGradeOfRows answers rows Skipped = ⊥
IsGradeOfRows answers rows (Flawed flaw) =
    (flaw ≡ WrongMerge) × (AreRows rows (last_listed answers) → ⊥)
IsGradeOfRows answers rows Misnamed = ⊥

-- the lines of a reply: one for each part, in its order; one for each block that it does not name,
-- and for the head if it does not name that; `F11` where the names are not those of the state's
-- parts; and last that of the rows
pub record AreStateLines
    (blocks : List Part) (head : Part) (query : QueryView) (reply : Reply) (lines : List StateLine)
    : Type 0 where
  pub of_parts : List StateLine
  pub of_blocks : List StateLine
  pub of_head : List StateLine
  pub of_names : List StateLine
  pub of_rows : Grade
  pub whole : lines ≡ of_parts ++ of_blocks ++ of_head ++ of_names
      ++ record { subject = of.Rows; grade = of_rows } ∷ []
  pub are_of_parts : AllZip (IsStatePartLine blocks head query) reply.parts.items of_parts
  pub are_of_blocks : AllZip (IsLeftBlockLine blocks query)
      (unnamed reply.parts.items (length blocks)) of_blocks
  pub are_of_head : AreLeftHeadLines (has_head reply.parts.items) head query of_head
  pub are_of_names : AreNamesLines reply.parts.items (length blocks) of_names
  pub is_of_rows : IsGradeOfRows (flat_map answers_of reply.parts.items) reply.rows.items of_rows

-- whether no line names a flaw
abbrev pub are_right_lines : List StateLine → Bool
are_right_lines lines = list_all (λ (line : StateLine). is_right line.grade) lines
