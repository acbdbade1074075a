-- What rows list, where rows stand behind others or are sorted, and what the rows of answers list.
use Rattle.std.proofs.Common.{◌≡◌, List, [], ◌∷◌, ◌++◌, refl, sym, ◌∙◌, ap, append_assoc}
use Rattle.std.specs.List.Sorted.{IsStableBy}
use Rattle.std.specs.FinMap.Entries.{find, put}
use Rattle.cover.specs.declared.part_cover.PartAnswer.{PartAnswer}
use Rattle.labels.specs.Labels.{point_cmp}
use Rattle.labels.specs.Contents.{Content}
use Rattle.labels.specs.Rows.{Row, points_in, points_of, row_before}
use Rattle.labels.specs.Parts.{laid_over}
use Rattle.labels.proofs.ContentLaws.{find-laid_over, is_sorted-laid_over, same_content, or_else}
use Rattle.labels.proofs.SortedRows.{find-alike, alike_kept}
use Rattle.series_merge.specs.Merging.{ListAlike, laid_each, merged_content, newest_first, row_lists}

pub laid_over-++ : (xs ys c : Content) → laid_over (xs ++ ys) c ≡ laid_over xs (laid_over ys c)
laid_over-++ [] ys c = refl
laid_over-++ (x ∷ xs) ys c = ap (put point_cmp x.0 x.1) (laid_over-++ xs ys c)

-- a stable sort by label sets lists the same
pub sorted_alike : (found rows : List Row) → IsStableBy row_before found rows → ListAlike rows found
sorted_alike found rows stable = λ c h.
    same_content (laid_over (points_of rows) c) (laid_over (points_of found) c)
    (is_sorted-laid_over (points_of rows) c h) (is_sorted-laid_over (points_of found) c h)
    (λ q. find-laid_over q (points_of rows) c
    ∙ ap (λ o. or_else o (find point_cmp q c)) (find-alike q.0 q.1 rows
    ∙ ap (λ xs. find point_cmp q (points_of xs)) (alike_kept found rows stable q.0)
    ∙ sym (find-alike q.0 q.1 found))
    ∙ sym (find-laid_over q (points_of found) c))

pub points_of-++ : (xs ys : List Row) → points_of (xs ++ ys) ≡ points_of xs ++ points_of ys
points_of-++ [] ys = refl
points_of-++ (r ∷ rs) ys =
    ap (λ c. points_in r.0 r.1 ++ c) (points_of-++ rs ys)
    ∙ sym (append_assoc (points_in r.0 r.1) (points_of rs) (points_of ys))

-- the rows of the last list first, each over what follows
pub laid_over-newest_first : (lists : List (List Row)) (c : Content)
    → laid_over (points_of (newest_first lists)) c ≡ laid_each c lists
laid_over-newest_first [] c = refl
laid_over-newest_first (rows ∷ lists) c =
    ap (λ es. laid_over es c) (points_of-++ (newest_first lists) rows)
    ∙ laid_over-++ (points_of (newest_first lists)) (points_of rows) c
    ∙ laid_over-newest_first lists (laid_over (points_of rows) c)

pub ListAlike-same : (xs ys : List Row) → points_of xs ≡ points_of ys → ListAlike xs ys
ListAlike-same xs ys same = λ c h. ap (λ es. laid_over es c) same

pub ListAlike-trans : (xs ys zs : List Row) → ListAlike xs ys → ListAlike ys zs → ListAlike xs zs
ListAlike-trans xs ys zs f g = λ c h. f c h ∙ g c h

-- rows behind others
pub ListAlike-++ : (xs xs' ys ys' : List Row) → ListAlike xs xs' → ListAlike ys ys'
    → ListAlike (xs ++ ys) (xs' ++ ys')
ListAlike-++ xs xs' ys ys' f g = λ c h.
    ap (λ es. laid_over es c) (points_of-++ xs ys)
    ∙ laid_over-++ (points_of xs) (points_of ys) c
    ∙ f (laid_over (points_of ys) c) (is_sorted-laid_over (points_of ys) c h)
    ∙ ap (laid_over (points_of xs')) (g c h)
    ∙ sym (laid_over-++ (points_of xs') (points_of ys') c)
    ∙ ap (λ es. laid_over es c) (sym (points_of-++ xs' ys'))

-- what the rows that have samples list is what the answers list
pub merged_is : (answers : List PartAnswer) (found : List Row)
    → ListAlike found (newest_first (row_lists answers))
    → laid_over (points_of found) [] ≡ merged_content answers
merged_is answers found is =
    is [] tt ∙ laid_over-newest_first (row_lists answers) []
