-- What a part has of all that an answer shows.
use Rattle.std.specs.Prelude.{ℕ, ◌≤◌, List, length}
use Rattle.std.specs.List.{Contains}
use Rattle.std.specs.List.Sorted.{IsStrictlyIncreasing}
use Rattle.labels.specs.Parts.{Part, references}
use Rattle.labels.specs.Rows.{points_of}
use Rattle.matchers.specs.Views.{QueryView}
use Rattle.cover.specs.declared.part_cover.PartAnswer.{PartAnswer}
use Rattle.cover.specs.Asking.{asked}
use Rattle.cover.specs.Certificates.{AreSeparators, begins_of}
use Rattle.auditor.specs.Auditing.{selected_content}

-- Strictly ascending references of the part.
pub record AreReferences (part : Part) (numbers : List ℕ) : Type 0 where
  pub ascending : IsStrictlyIncreasing numbers
  pub of_part : (r : ℕ) → Contains numbers r → Contains (references part) r

-- The part has all that the answer shows: the intervals begin with references of it, one after
-- another; the separators are separators of it; and the query selects no fewer samples of it than
-- the rows list.
pub record HasAllShown (part : Part) (query : QueryView) (answer : PartAnswer) : Type 0 where
  pub begins : AreReferences part (begins_of answer.cover.certificate.items)
  pub separated : AreSeparators (asked part query) answer.cover.separators.items
  pub rows : length (points_of answer.rows.items) ≤ length (selected_content part query)
