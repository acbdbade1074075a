-- The rows of several parts' answers, merged, are the selected rows of the parts together.
use Rattle.std.proofs.Common.{◌≡◌, T, List, [], ◌∷◌, map, refl, sym, ◌∙◌, ap}
use Rattle.std.specs.Prelude.{◌&&◌}
use Rattle.std.specs.List.{AllZip}
use Rattle.std.specs.FinMap.Entries.{find, is_sorted}
use Rattle.labels.specs.Labels.{point_cmp}
use Rattle.labels.specs.Contents.{Content, in_range, selected}
use Rattle.labels.specs.Rows.{points_of}
use Rattle.labels.specs.Parts.{Part, rows_in, laid_over, over, content_of, part_kept}
use Rattle.labels.proofs.ContentLaws.{or_else, or_else_none, find-laid_over, is_sorted-laid_over}
use Rattle.labels.proofs.ContentLaws.{same_content}
use Rattle.labels.proofs.Restricting.{kept-over}
use Rattle.matchers.specs.Views.{QueryView}
use Rattle.matchers.specs.Satisfies.{satisfies_all}
use Rattle.cover.specs.declared.part_cover.PartAnswer.{PartAnswer}
use Rattle.block_search.specs.Skipping.{AskedPart}
use Rattle.block_search.specs.Answers.{IsPartAnswer, IsAnswerOf}
use Rattle.series_merge.specs.Merging.{laid_each, row_lists, merged_content}

-- what is laid over nothing lies over a content as it does by itself
laid_again : (es c : Content) → T (is_sorted point_cmp c)
    → laid_over (laid_over es []) c ≡ laid_over es c
laid_again es c h =
    same_content (laid_over (laid_over es []) c) (laid_over es c)
    (is_sorted-laid_over (laid_over es []) c h) (is_sorted-laid_over es c h)
    (λ q. find-laid_over q (laid_over es []) c
    ∙ ap (λ o. or_else o (find point_cmp q c)) (find-laid_over q es []
    ∙ or_else_none (find point_cmp q es))
    ∙ sym (find-laid_over q es c))

module _ (query : QueryView) where
  laid_answer : (part : Part) (answer : PartAnswer) → IsPartAnswer query part answer → (c : Content)
      → T (is_sorted point_cmp c)
      → laid_over (points_of answer.rows.items) c ≡ laid_over (points_of (rows_in (part_kept
      (λ p. satisfies_all query.matchers p.0 && in_range query.from query.to p.1) part))) c
  laid_answer part answer is c h =
      ap (λ es. laid_over es c) (is.rows.points
      ∙ kept-over (λ p. satisfies_all query.matchers p.0
      && in_range query.from query.to p.1) (part ∷ []) [] tt)
      ∙ laid_again (points_of (rows_in (part_kept (λ p. satisfies_all query.matchers p.0
      && in_range query.from query.to p.1) part))) c h

  merged : (parts : List Part) (answers : List PartAnswer)
      → AllZip (IsPartAnswer query) parts answers
      → (c : Content) → T (is_sorted point_cmp c)
      → laid_each c (row_lists answers) ≡ over c (map (part_kept (λ p.
      satisfies_all query.matchers p.0 && in_range query.from query.to p.1)) parts)
  merged [] [] are c h = refl
  merged [] (a ∷ rest) are c h = absurd are
  merged (part ∷ parts) [] are c h = absurd are
  merged (part ∷ parts) (a ∷ rest) are c h =
      let kept =
      points_of (rows_in (part_kept (λ p. satisfies_all query.matchers p.0
      && in_range query.from query.to p.1) part)) in
      ap (λ d. laid_each d (row_lists rest)) (laid_answer part a are.0 c h)
      ∙ merged parts rest are.1 (laid_over kept c) (is_sorted-laid_over kept c h)

  pub merged_is_selected : (parts : List Part) (answers : List PartAnswer)
      → AllZip (IsPartAnswer query) parts answers
      → merged_content answers
      ≡ selected (satisfies_all query.matchers) query.from query.to (content_of parts)
  merged_is_selected parts answers are =
      merged parts answers are [] tt
      ∙ sym (kept-over (λ p. satisfies_all query.matchers p.0
      && in_range query.from query.to p.1) parts [] tt)

  -- answers under their names are answers of the parts
  pub each_answers : (asked : List AskedPart) (answers : List PartAnswer)
      → AllZip (IsAnswerOf query) asked answers
      → AllZip (IsPartAnswer query) (map (λ p. p.part) asked) answers
  each_answers [] [] are = tt
  each_answers [] (a ∷ rest) are = absurd are
  each_answers (p ∷ ps) [] are = absurd are
  each_answers (p ∷ ps) (a ∷ rest) are = (are.0.answers, each_answers ps rest are.1)
