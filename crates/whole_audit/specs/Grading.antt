-- What is said of each part of a reply that is held against a state.
use Rattle.std.specs.Prelude.{◌≡◌, ℕ, ◌+◌, Bool, true, false, ◌&&◌, List, [], ◌∷◌, ◌==◌, codes, length}
use Rattle.labels.specs.Parts.{Part}
use Rattle.matchers.specs.Views.{QueryView}
use Rattle.postings.specs.declared.part_name.PartName.{PartName}
use Rattle.postings.specs.declared.part_name.PartName.TheVariants.{Block, Head}
use Rattle.cover.specs.declared.part_cover.PartAnswer.{PartAnswer}
use Rattle.reply_reader.specs.declared.reply.ToldPart.{ToldPart}
use Rattle.reply_reader.specs.declared.reply.ToldPart.TheVariants as parts
use Rattle.auditor.specs.declared.flaw.Flaw.TheVariants.{Hidden}
use Rattle.auditor.specs.Auditing.{IsSoundAnswer, IsFlaw, selected_content}
use Rattle.auditor.specs.Judgements.{name_of, is_of_block, placed, place_of}
use Rattle.auditor.specs.Errors.{code_of}
use Rattle.whole_audit.specs.declared.grade.Grade.{Grade}
use Rattle.whole_audit.specs.declared.grade.Grade.TheVariants.{Valid, NumberedOtherwise, Skipped, Flawed, Misnamed}
use Rattle.whole_audit.specs.Explaining.{IsExplained}

-- what is said, as a line says it
abbrev pub grade_text : Grade → List ℕ
grade_text Valid = codes "valid"
grade_text NumberedOtherwise = codes "valid, numbered otherwise"
grade_text Skipped = codes "skipped"
grade_text (Flawed flaw) = placed (code_of flaw) (place_of flaw)
grade_text Misnamed = codes "F11"

-- whether nothing is wrong
abbrev pub is_right : Grade → Bool
is_right Valid = true
is_right NumberedOtherwise = true
is_right Skipped = true
is_right (Flawed flaw) = false
is_right Misnamed = false

-- The name is a block's, and the part explains the answer.
abbrev pub IsExplainedUnder : PartName → QueryView → Part → PartAnswer → Type 0
IsExplainedUnder (Block number) query part answer = IsExplained part query answer
IsExplainedUnder Head query part answer = ⊥

-- what is said of an answer: that it is valid where it is sound; that it is numbered otherwise
-- where it is not sound and the part explains it, under the name of a block; else its first flaw
abbrev pub IsGradeOfAnswer : QueryView → Part → PartAnswer → Grade → Type 0
IsGradeOfAnswer query part answer Valid = IsSoundAnswer part query answer
IsGradeOfAnswer query part answer NumberedOtherwise =
    (IsSoundAnswer part query answer → ⊥) × IsExplainedUnder answer.part query part answer
IsGradeOfAnswer query part answer Skipped = ⊥
IsGradeOfAnswer query part answer (Flawed flaw) =
    IsFlaw part query answer flaw × (IsExplainedUnder answer.part query part answer → ⊥)
IsGradeOfAnswer query part answer Misnamed = ⊥

-- what is said of a part that is skipped: that it is, where the query selects nothing of it, else
-- `F9`
abbrev pub IsGradeOfSkip : QueryView → Part → Grade → Type 0
IsGradeOfSkip query part Valid = ⊥
IsGradeOfSkip query part NumberedOtherwise = ⊥
IsGradeOfSkip query part Skipped = selected_content part query ≡ []
IsGradeOfSkip query part (Flawed flaw) =
    (flaw ≡ Hidden) × (selected_content part query ≡ [] → ⊥)
IsGradeOfSkip query part Misnamed = ⊥

abbrev pub IsGradeOf : QueryView → Part → ToldPart → Grade → Type 0
IsGradeOf query part (parts.Searched answer) grade = IsGradeOfAnswer query part answer grade
IsGradeOf query part (parts.Skipped number) grade = IsGradeOfSkip query part grade

-- whether these are parts of blocks, from this number on
abbrev pub are_blocks_from : ℕ → List ToldPart → Bool
are_blocks_from n [] = true
are_blocks_from n (told ∷ rest) = is_of_block n (name_of told) && are_blocks_from (n + 1) rest

-- whether it is the name of the head
abbrev pub is_head : PartName → Bool
is_head (Block number) = false
is_head Head = true

-- whether these are so many blocks, in order, and the last is the head
abbrev pub is_end : ToldPart → List ToldPart → ℕ → Bool
is_end last others blocks =
    (length others == blocks) && is_head (name_of last) && are_blocks_from 0 others
