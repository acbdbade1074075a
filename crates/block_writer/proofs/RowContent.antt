-- The content of a part with exactly the rows of a written block.
use Rattle.std.proofs.Common.{◌≡◌, List, [], ◌∷◌, ap, ◌∙◌}
use Rattle.std.specs.Prelude.{T}
use Rattle.std.specs.Bool.{IsTrue}
use Rattle.std.specs.List.{list_all, AllByRecursion}
use Rattle.std.specs.Ordering.{int_cmp}
use Rattle.std.specs.FinMap.Entries.{find, is_sorted}
use Rattle.std.proofs.lemmas.List.Elements.{All-from_recursion}
use Rattle.labels.specs.Labels.{labels_cmp, point_cmp}
use Rattle.labels.specs.Contents.{Content}
use Rattle.labels.specs.Rows.{Row, points_of}
use Rattle.labels.specs.Parts.{Part, rows_in, laid_over, content_of}
use Rattle.labels.proofs.ContentLaws.{find-laid_over, is_sorted-laid_over, or_else_none}
use Rattle.labels.proofs.ContentLaws.{same_content}
use Rattle.labels.proofs.SortedRows.{is_sorted-points_of}
use Rattle.labels.proofs.Times.{first_T, second_T, T_of}
use Rattle.block_writer.specs.PartRows.{has_some, is_series, are_part_rows}

times_rise : (rows : List Row) → T (list_all is_series rows)
    → AllByRecursion (λ (row : Row). T (is_sorted int_cmp row.1)) rows
times_rise [] h = tt
times_rise (row ∷ rows) h = (
  second_T (has_some row.1) (is_sorted int_cmp row.1)
      (first_T (is_series row) (list_all is_series rows) h),
  times_rise rows (second_T (is_series row) (list_all is_series rows) h),
)

-- the samples of rows that a part may have are a content
pub points_rise : (rows : List Row) → IsTrue (are_part_rows rows)
    → T (is_sorted point_cmp (points_of rows))
points_rise rows part =
    let both : T (are_part_rows rows) = T_of (are_part_rows rows) part in
    is_sorted-points_of rows (first_T (is_sorted labels_cmp rows) (list_all is_series rows) both)
    (All-from_recursion (λ (row : Row). T (is_sorted int_cmp row.1)) rows
    (times_rise rows (second_T (is_sorted labels_cmp rows) (list_all is_series rows) both)))

laid_over_nothing : (c : Content) → T (is_sorted point_cmp c) → laid_over c [] ≡ c
laid_over_nothing c h =
    same_content (laid_over c []) c (is_sorted-laid_over c [] tt) h (λ q.
    find-laid_over q c [] ∙ or_else_none (find point_cmp q c))

-- the content of a part with exactly these rows is their samples
pub content_of-rows : (part : Part) (rows : List Row) → rows_in part ≡ rows
    → IsTrue (are_part_rows rows) → content_of (part ∷ []) ≡ points_of rows
content_of-rows part rows exactly may =
    ap (λ (rs : List Row). laid_over (points_of rs) []) exactly
    ∙ laid_over_nothing (points_of rows) (points_rise rows may)
