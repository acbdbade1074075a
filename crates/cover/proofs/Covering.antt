-- What is said of a cover, from its leftmost certificate.
use Rattle.std.proofs.Common.{◌≡◌, ◌+◌, ◌*◌, ◌≤◌, length, ap, sym, subst, ◌∙◌}
use Rattle.labels.specs.Parts.{Part, IsPart}
use Rattle.matchers.specs.Views.{QueryView}
use Rattle.cover.specs.declared.part_cover.PartCover.{PartCover}
use Rattle.cover.specs.Asking.{asked}
use Rattle.cover.specs.Certificates.{IsLeftmost, IsLeast, AreSeparators, begins_of, matches_of}
use Rattle.cover.specs.Covers.{IsCoverOf}
use Rattle.cover.proofs.Choices.{asked_part, matches_selected}
use Rattle.cover.proofs.Farthest.{bound_of_any}
use Rattle.cover.proofs.Least.{leftmost_least, leftmost_separates, length-begins}
use Rattle.cover.proofs.Matching.{valid_matches}

pub cover_of : (part : Part) (query : QueryView) (cover : PartCover) → IsPart part
    → IsLeftmost (asked part query) cover.certificate.items
    → cover.separators.items ≡ begins_of cover.certificate.items
    → cover.moves ≤ (length query.matchers + 2) * length cover.certificate.items
    → IsCoverOf part query cover
cover_of part query cover is leftmost begins moves =
    let certificate = cover.certificate.items in
    let is_asked = asked_part part query is in
    let least : IsLeast (asked part query) certificate =
    leftmost_least (asked part query) certificate is_asked leftmost in
    record {
      leftmost = leftmost;
      valid = leftmost.valid;
      least = least;
      matches =
          matches_selected part query (matches_of certificate) is
          (valid_matches (asked part query) certificate leftmost.valid);
      begins = begins;
      as_many = ap length begins ∙ length-begins certificate;
      separated =
          subst (AreSeparators (asked part query)) (sym begins)
          (leftmost_separates (asked part query) certificate is_asked leftmost);
      moves = λ other valid.
          bound_of_any cover.moves (length query.matchers + 2) (length certificate) (length other)
          moves (least other valid);
    }
