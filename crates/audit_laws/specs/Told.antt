-- What is told of a snapshot's parts.
use Rattle.std.specs.Prelude.{ℕ}
use Rattle.matchers.specs.Views.{QueryView}
use Rattle.cover.specs.declared.part_cover.PartAnswer.{PartAnswer}
use Rattle.head.specs.Heads.{SnapshotParts}
use Rattle.block_search.specs.Places.{part_at}
use Rattle.block_search.specs.Answers.{IsAnswerOf}

-- the answer is that of the part at some place of the snapshot, under its name
abbrev pub IsToldOf : QueryView → SnapshotParts → PartAnswer → Type 0
IsToldOf query s answer = (place : ℕ) × IsAnswerOf query (part_at query s place) answer
