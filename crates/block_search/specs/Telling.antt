-- What is told of one part after another, given the answers that are left.
use Rattle.std.specs.Prelude.{ℕ, Bool, false, ◌==◌, List, [], ◌∷◌, map, take, drop}
use Rattle.std.specs.Prelude.{if◌then◌else◌}
use Rattle.postings.specs.declared.part_name.PartName.{PartName}
use Rattle.postings.specs.declared.part_name.PartName.TheVariants.{Block, Head}
use Rattle.cover.specs.declared.part_cover.PartAnswer.{PartAnswer}
use Rattle.block_search.specs.declared.answered.AnsweredPart.{AnsweredPart}
use Rattle.block_search.specs.declared.answered.AnsweredPart.TheVariants.{Searched, Skipped}

abbrev pub is_block : ℕ → PartName → Bool
is_block n (Block k) = k == n
is_block n Head = false

-- whether the next answer is that of the block of this number
abbrev pub is_next : ℕ → List PartAnswer → Bool
is_next n [] = false
is_next n (answer ∷ answers) = is_block n answer.part

-- the head has the next answer
abbrev pub told_of_head : List PartAnswer → List AnsweredPart
told_of_head answers = map (λ answer. Searched answer) (take 1 answers)

-- a block has the next answer if that is its own, and was skipped otherwise
abbrev pub told_of_block : ℕ → List PartAnswer → List AnsweredPart
told_of_block n answers =
    if is_next n answers then told_of_head answers else Skipped (Block n) ∷ []

-- the answers that are left then
abbrev pub left_after_block : ℕ → List PartAnswer → List PartAnswer
left_after_block n answers = if is_next n answers then drop 1 answers else answers
