-- Laws of contents, parts and rows.
use Rattle.std.specs.Prelude.{◌≡◌, suc, ℤ, Bool, true, false, cond, ◌&&◌, T, List, [], ◌∷◌, ◌++◌, Option, None, Some, refl, length}
use Rattle.std.specs.declared.cmp.Ordering.{Ordering}
use Rattle.std.specs.declared.cmp.Ordering.TheVariants.{Less, Equal, Greater}
use Rattle.std.specs.Ordering.{int_cmp, ordering_then, eq_by_cmp, is_eq, is_lt}
use Rattle.std.specs.FinMap.Entries.{find, is_sorted, below_all, find-put, is_sorted-put, same_entries}
use Rattle.std.proofs.Common.{◌∙◌, ap}
use Rattle.std.specs.Cmp.{tied_itself}
use Rattle.labels.specs.Labels.{Labels, Point, labels_cmp, point_cmp, same_labels}
use Rattle.labels.specs.Contents.{Content}
use Rattle.labels.specs.Rows.{points_in, points_of}
use Rattle.labels.specs.Parts.{Part, rows_in, laid_over, over}
use Rattle.labels.specs.Laws.{labels_total}
use Rattle.labels.proofs.OrderLaws.{point_total, point_exact}

-- the first value, or else the second
abbrev pub or_else : Option ℤ → Option ℤ → Option ℤ
or_else None b = b
or_else (Some v) b = Some v

pub or_else_cond : (b : Bool) (v : ℤ) (x y : Option ℤ) → cond b (Some v) (or_else x y) ≡ or_else (cond b (Some v) x) y
or_else_cond true v x y = refl
or_else_cond false v x y = refl

-- what is laid over a content is found first
pub find-laid_over : (q : Point) (es : List (Point × ℤ)) (c : Content) → find point_cmp q (laid_over es c) ≡ or_else (find point_cmp q es) (find point_cmp q c)
find-laid_over q [] c = refl
find-laid_over q (e ∷ es) c =
    find-put point_cmp point_total q e.0 e.1 (laid_over es c)
    ∙ ap (cond (eq_by_cmp point_cmp q e.0) (Some e.1)) (find-laid_over q es c)
    ∙ or_else_cond (eq_by_cmp point_cmp q e.0) e.1 (find point_cmp q es) (find point_cmp q c)

pub is_sorted-laid_over : (es : List (Point × ℤ)) (c : Content) → T (is_sorted point_cmp c) → T (is_sorted point_cmp (laid_over es c))
is_sorted-laid_over [] c h = h
is_sorted-laid_over (e ∷ es) c h = is_sorted-put point_cmp point_total e.0 e.1 (laid_over es c) (is_sorted-laid_over es c h)

pub is_sorted-over : (parts : List Part) (c : Content) → T (is_sorted point_cmp c) → T (is_sorted point_cmp (over c parts))
is_sorted-over [] c h = h
is_sorted-over (part ∷ parts) c h = is_sorted-over parts (laid_over (points_of (rows_in part)) c) (is_sorted-laid_over (points_of (rows_in part)) c h)

-- contents that answer alike are equal
pub same_content : (c d : Content) → T (is_sorted point_cmp c) → T (is_sorted point_cmp d) → ((q : Point) → find point_cmp q c ≡ find point_cmp q d) → c ≡ d
same_content c d g h is = same_entries point_cmp point_total point_exact c d g h is

-- the last part lies over the others
pub over-last : (parts : List Part) (c : Content) (part : Part) → over c (parts ++ part ∷ []) ≡ laid_over (points_of (rows_in part)) (over c parts)
over-last [] c part = refl
over-last (p ∷ ps) c part = over-last ps (laid_over (points_of (rows_in p)) c) part

pub or_else_none : (x : Option ℤ) → or_else x None ≡ x
or_else_none None = refl
or_else_none (Some v) = refl

pub find-++ : (q : Point) (xs ys : List (Point × ℤ)) → find point_cmp q (xs ++ ys) ≡ or_else (find point_cmp q xs) (find point_cmp q ys)
find-++ q [] ys = refl
find-++ q (x ∷ xs) ys = ap (cond (eq_by_cmp point_cmp q x.0) (Some x.1)) (find-++ q xs ys) ∙ or_else_cond (eq_by_cmp point_cmp q x.0) x.1 (find point_cmp q xs) (find point_cmp q ys)

by_labels : (r : Ordering) (t u : ℤ) (x y : Option ℤ) → cond (is_eq (ordering_then r (int_cmp t u))) x (cond (is_eq r) y None) ≡ cond (is_eq r) (cond (eq_by_cmp int_cmp t u) x y) None
by_labels Less t u x y = refl
by_labels Equal t u x y = refl
by_labels Greater t u x y = refl

nowhere : (b : Bool) → ◌≡◌ {A = Option ℤ} None (cond b None None)
nowhere true = refl
nowhere false = refl

-- a sample is found in a row at its label set and time
pub find-points_in : (l' : Labels) (t : ℤ) (l : Labels) (ss : List (ℤ × ℤ)) → find point_cmp (l', t) (points_in l ss) ≡ cond (same_labels l' l) (find int_cmp t ss) None
find-points_in l' t l [] = nowhere (same_labels l' l)
find-points_in l' t l (s ∷ ss) =
    ap (cond (eq_by_cmp point_cmp (l', t) (l, s.0)) (Some s.1)) (find-points_in l' t l ss)
    ∙ by_labels (labels_cmp l' l) t s.0 (Some s.1) (find int_cmp t ss)

pub length-points_in : (l : Labels) (ss : List (ℤ × ℤ)) → length (points_in l ss) ≡ length ss
length-points_in l [] = refl
length-points_in l (s ∷ ss) = ap suc (length-points_in l ss)

pub labels_self : (l : Labels) → labels_cmp l l ≡ Equal
labels_self l = tied_itself labels_total l

below-points_in : (l : Labels) (t : ℤ) (ss : List (ℤ × ℤ)) → below_all point_cmp (l, t) (points_in l ss) ≡ below_all int_cmp t ss
below-points_in l t [] = refl
below-points_in l t (s ∷ ss) =
    ap (λ r. is_lt (ordering_then r (int_cmp t s.0)) && below_all point_cmp (l, t) (points_in l ss)) (labels_self l)
    ∙ ap (λ b. is_lt (int_cmp t s.0) && b) (below-points_in l t ss)

pub is_sorted-points_in : (l : Labels) (ss : List (ℤ × ℤ)) → is_sorted point_cmp (points_in l ss) ≡ is_sorted int_cmp ss
is_sorted-points_in l [] = refl
is_sorted-points_in l (s ∷ ss) = λ i. below-points_in l s.0 ss i && is_sorted-points_in l ss i
