-- What blocks hold, laid over any content.
use Rattle.std.proofs.Common.{◌≡◌, ℤ, T, List, [], ◌∷◌, ◌++◌, Option, None, Some, map, refl, sym, ap}
use Rattle.std.proofs.Common.{◌∙◌}
use Rattle.std.specs.FinMap.Entries.{find, is_sorted}
use Rattle.head.specs.Heads.{BlockPart}
use Rattle.labels.specs.Contents.{Content}
use Rattle.labels.specs.Labels.{Point, point_cmp}
use Rattle.labels.specs.Parts.{Part, laid_over, over, rows_in}
use Rattle.labels.specs.Rows.{AreRows, Row, points_of}
use Rattle.labels.proofs.ContentLaws.{find-laid_over, is_sorted-laid_over, is_sorted-over, or_else}
use Rattle.labels.proofs.ContentLaws.{or_else_none, same_content}
use Rattle.series_merge.specs.Merging.{laid_each}
use Rattle.head.specs.Joins.{HoldSame, parts_in}

grouped : (x y z : Option ℤ) → or_else x (or_else y z) ≡ or_else (or_else x y) z
grouped None y z = refl
grouped (Some v) y z = refl

-- parts laid over a content are their rows laid over it
over_rows : (c : Content) (parts : List Part) → over c parts ≡ laid_each c (map rows_in parts)
over_rows c [] = refl
over_rows c (part ∷ parts) = over_rows (laid_over (points_of (rows_in part)) c) parts

-- what is found over a content is what is found of the lists alone, or else in the content
found_over : (q : Point) (c : Content) (lists : List (List Row))
    → find point_cmp q (laid_each c lists) ≡ or_else (find point_cmp q (laid_each [] lists)) (find
    point_cmp q c)
found_over q c [] = refl
found_over q c (rows ∷ lists) =
    let each = find point_cmp q (laid_each [] lists) in
    found_over q (laid_over (points_of rows) c) lists
    ∙ ap (or_else each) (find-laid_over q (points_of rows) c)
    ∙ grouped each (find point_cmp q (points_of rows)) (find point_cmp q c)
    ∙ ap (λ x. or_else (or_else each x) (find point_cmp q c))
    (sym (find-laid_over q (points_of rows) [] ∙ or_else_none (find point_cmp q (points_of rows))))
    ∙ ap (λ x. or_else x (find point_cmp q c)) (sym (found_over q (laid_over (points_of rows) [])
    lists))

-- one part with the joined rows of others holds what they hold
pub one_part : (parts : List Part) (rows : List Row) (part : Part) (c : Content)
    → AreRows rows (laid_each [] (map rows_in parts)) → rows_in part ≡ rows
    → T (is_sorted point_cmp c) → over c parts ≡ over c (part ∷ [])
one_part parts rows part c joined is up =
    let whole = laid_each [] (map rows_in parts) in
    let points = ap points_of is ∙ joined.points in
    same_content (over c parts) (over c (part ∷ [])) (is_sorted-over parts c up)
    (is_sorted-laid_over (points_of (rows_in part)) c up)
    (λ q. ap (find point_cmp q) (over_rows c parts) ∙ found_over q c (map rows_in parts)
    ∙ sym (find-laid_over q whole c)
    ∙ ap (λ (ps : Content). find point_cmp q (laid_over ps c)) (sym points))

pub one_holds : (old : List BlockPart) (rows : List Row) (b : BlockPart)
    → AreRows rows (laid_each [] (map rows_in (parts_in old))) → rows_in b.part ≡ rows
    → HoldSame old (b ∷ [])
one_holds old rows b joined is c up = one_part (parts_in old) rows b.part c joined is up

pub holds_itself : (blocks : List BlockPart) → HoldSame blocks blocks
holds_itself blocks c up = refl

pub over_both : (c : Content) (a b : List BlockPart)
    → over c (parts_in (a ++ b)) ≡ over (over c (parts_in a)) (parts_in b)
over_both c [] b = refl
over_both c (x ∷ a) b = over_both (laid_over (points_of (rows_in x.part)) c) a b

-- runs one after another
pub both_hold : (a b c d : List BlockPart) → HoldSame a c → HoldSame b d → HoldSame (a ++ b) (c ++ d)
both_hold a b c d first second x up =
    over_both x a b
    ∙ second (over x (parts_in a)) (is_sorted-over (parts_in a) x up)
    ∙ ap (λ (y : Content). over y (parts_in d)) (first x up)
    ∙ sym (over_both x c d)

-- parts laid over a content are their own content laid over it
pub over_beneath : (c : Content) (parts : List Part) → T (is_sorted point_cmp c)
    → over c parts ≡ laid_over (over [] parts) c
over_beneath c parts up =
    same_content (over c parts) (laid_over (over [] parts) c) (is_sorted-over parts c up)
    (is_sorted-laid_over (over [] parts) c up)
    (λ q. ap (find point_cmp q) (over_rows c parts) ∙ found_over q c (map rows_in parts)
    ∙ ap (λ (x : Content). or_else (find point_cmp q x) (find point_cmp q c)) (sym (over_rows []
    parts)) ∙ sym (find-laid_over q (over [] parts) c))
