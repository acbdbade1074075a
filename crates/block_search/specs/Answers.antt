-- The answer of one part to a query.
use Rattle.std.specs.Prelude.{◌≡◌, List, [], ◌∷◌, length}
use Rattle.std.specs.List.{AllZip}
use Rattle.labels.specs.Rows.{AreRows}
use Rattle.labels.specs.Parts.{Part, IsPart, content_of}
use Rattle.matchers.specs.Views.{QueryView}
use Rattle.matchers.specs.Queries.{selected_by}
use Rattle.cover.specs.Certificates.{matches_of}
use Rattle.cover.specs.Covers.{IsCoverOf}
use Rattle.cover.specs.declared.part_cover.PartAnswer.{PartAnswer}
use Rattle.head.specs.Heads.{SnapshotParts}
use Rattle.block_search.specs.Skipping.{AskedPart, searched_parts}

-- The rows are those of the part's content restricted to the matchers and the range, as many as the
-- certificate has matches; certificate, separators and moves are those of a cover of the part.
pub record IsPartAnswer (query : QueryView) (part : Part) (answer : PartAnswer) : Type 0 where
  pub rows : AreRows answer.rows.items (selected_by query (content_of (part ∷ [])))
  pub as_many : length answer.rows.items ≡ length (matches_of answer.cover.certificate.items)
  pub cover : IsCoverOf part query answer.cover

-- the answer of a part, under the part's name
pub record IsAnswerOf (query : QueryView) (asked : AskedPart) (answer : PartAnswer) : Type 0 where
  pub name : answer.part ≡ asked.name
  pub is_part : IsPart asked.part
  pub answers : IsPartAnswer query asked.part answer

-- an answer of each part that is searched, in the order of the parts
abbrev pub AreAnswers : QueryView → SnapshotParts → List PartAnswer → Type 0
AreAnswers query s answers = AllZip (IsAnswerOf query) (searched_parts query s) answers

-- Answers that differ in no more than the moves that they took.
pub record Agree (a b : PartAnswer) : Type 0 where
  pub name : a.part ≡ b.part
  pub rows : a.rows.items ≡ b.rows.items
  pub certificate : a.cover.certificate.items ≡ b.cover.certificate.items
  pub separators : a.cover.separators.items ≡ b.cover.separators.items
