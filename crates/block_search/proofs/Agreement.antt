-- Answers of one part to one query agree.
use Rattle.std.proofs.Common.{List, [], ◌∷◌, sym, ◌∙◌, ap}
use Rattle.std.specs.List.{AllZip}
use Rattle.labels.specs.Contents.{selected}
use Rattle.labels.specs.Parts.{content_of}
use Rattle.labels.proofs.RowLaws.{same_rows}
use Rattle.matchers.specs.Views.{QueryView}
use Rattle.matchers.specs.Satisfies.{satisfies_all}
use Rattle.cover.specs.Asking.{asked}
use Rattle.cover.specs.Certificates.{begins_of}
use Rattle.cover.specs.declared.part_cover.PartAnswer.{PartAnswer}
use Rattle.cover.proofs.Choices.{asked_part}
use Rattle.cover.proofs.Unique.{leftmost_unique}
use Rattle.block_search.specs.Skipping.{AskedPart}
use Rattle.block_search.specs.Answers.{IsAnswerOf, Agree}

module _ (query : QueryView) where
  agree : (p : AskedPart) (a b : PartAnswer) → IsAnswerOf query p a → IsAnswerOf query p b
      → Agree a b
  agree p a b x y =
      let same = leftmost_unique (asked p.part query) a.cover.certificate.items
      b.cover.certificate.items (asked_part p.part query x.is_part) x.answers.cover.leftmost
      y.answers.cover.leftmost in
      record {
        name = x.name ∙ sym y.name;
        rows = same_rows a.rows.items b.rows.items (selected (satisfies_all query.matchers)
            query.from query.to (content_of (p.part ∷ []))) x.answers.rows y.answers.rows;
        certificate = same;
        separators = x.answers.cover.begins ∙ ap begins_of same ∙ sym y.answers.cover.begins;
      }

  pub all_agree : (parts : List AskedPart) (xs ys : List PartAnswer) → AllZip (IsAnswerOf query)
      parts xs → AllZip (IsAnswerOf query) parts ys → AllZip Agree xs ys
  all_agree [] [] [] are too = tt
  all_agree [] [] (y ∷ ys) are too = absurd too
  all_agree [] (x ∷ xs) ys are too = absurd are
  all_agree (p ∷ ps) [] ys are too = absurd are
  all_agree (p ∷ ps) (x ∷ xs) [] are too = absurd too
  all_agree (p ∷ ps) (x ∷ xs) (y ∷ ys) are too = (
    agree p x y are.0 too.0,
    all_agree ps xs ys are.1
        too.1,
  )
