-- What is told of the parts of a snapshot.
use Rattle.std.specs.Prelude.{◌≡◌, true, false, List}
use Rattle.std.specs.List.{AllZip}
use Rattle.matchers.specs.Views.{QueryView}
use Rattle.head.specs.Heads.{SnapshotParts}
use Rattle.block_search.specs.Skipping.{AskedPart, asked_parts}
use Rattle.block_search.specs.Answers.{IsAnswerOf}
use Rattle.block_search.specs.declared.answered.AnsweredPart.{AnsweredPart}
use Rattle.block_search.specs.declared.answered.AnsweredPart.TheVariants.{Searched, Skipped}

-- What is told of a part: its answer, under its name, or that it is skipped, exactly where it is.
abbrev pub IsAnsweredPart : QueryView → AskedPart → AnsweredPart → Type 0
IsAnsweredPart query asked (Searched answer) =
    (asked.skipped ≡ false) × IsAnswerOf query asked answer
IsAnsweredPart query asked (Skipped name) = (asked.skipped ≡ true) × (name ≡ asked.name)

-- the parts of the snapshot are told of, in their order
abbrev pub AreAnsweredParts : QueryView → SnapshotParts → List AnsweredPart → Type 0
AreAnsweredParts query snapshot parts =
    AllZip (IsAnsweredPart query) (asked_parts query snapshot) parts
