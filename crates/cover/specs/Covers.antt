-- What is said of a part's cover: its certificate, its separators, and the moves of its lists.
use Rattle.std.specs.Prelude.{◌≡◌, ℕ, ◌+◌, ◌*◌, ◌≤◌, List, length}
use Rattle.labels.specs.Parts.{Part}
use Rattle.matchers.specs.Views.{QueryView}
use Rattle.cover.specs.Asking.{asked, matching_references}
use Rattle.cover.specs.Certificates.{IsLeftmost, IsValidCertificate, IsLeast, AreSeparators}
use Rattle.cover.specs.Certificates.{begins_of, matches_of}
use Rattle.cover.specs.declared.certificate.Interval.{Interval}
use Rattle.cover.specs.declared.part_cover.PartCover.{PartCover}

-- At most so many moves for each interval of any valid certificate.
abbrev pub MovesAtMost : Part → QueryView → ℕ → ℕ → Type 0
MovesAtMost part query each moves =
    (other : List Interval) → IsValidCertificate (asked part query) other
    → moves ≤ each * length other

-- The cover of a part for a query. Its certificate is the leftmost one: it is valid, no valid one
-- has fewer intervals, and its matches are exactly the references that the query asks for. Its
-- separators are where the intervals begin, so they are as many, and they show that no fewer would
-- do. Its lists report at most two moves more than there are matchers for each interval of any
-- valid certificate.
pub record IsCoverOf (part : Part) (query : QueryView) (cover : PartCover) : Type 0 where
  pub leftmost : IsLeftmost (asked part query) cover.certificate.items
  pub valid : IsValidCertificate (asked part query) cover.certificate.items
  pub least : IsLeast (asked part query) cover.certificate.items
  pub matches : matches_of cover.certificate.items ≡ matching_references part query
  pub begins : cover.separators.items ≡ begins_of cover.certificate.items
  pub as_many : length cover.separators.items ≡ length cover.certificate.items
  pub separated : AreSeparators (asked part query) cover.separators.items
  pub moves : MovesAtMost part query (length query.matchers + 2) cover.moves
