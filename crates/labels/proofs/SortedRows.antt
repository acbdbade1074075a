-- Rows in the order of their label sets, and what they list.
use Rattle.std.proofs.Common.{◌≡◌, ℕ, suc, ◌+◌, ◌<◌, ◌≤◌, ℤ, Bool, true, false, cond, T, List, [], ◌∷◌, ◌++◌, None, length, refl, sym, ◌∙◌, ap, subst, get_or, arith}
use Rattle.std.specs.Prelude.{not, ◌&&◌}
use Rattle.std.specs.List.{filter, All}
use Rattle.std.specs.List.Sorted.{IsPermutation, IsSortedBy, IsStableBy, ties}
use Rattle.std.specs.declared.cmp.Ordering.{Ordering}
use Rattle.std.specs.declared.cmp.Ordering.TheVariants.{Less, Equal, Greater}
use Rattle.std.specs.Ordering.{int_cmp, is_lt, is_eq, ordering_reverse, ordering_then}
use Rattle.std.specs.Cmp.{IsStrictWeakOrder}
use Rattle.std.specs.FinMap.Entries.{find, is_sorted, below_all}
use Rattle.std.proofs.lemmas.List.Elements.{filter_agree, All-head, All-tail}
use Rattle.std.proofs.lemmas.List.Sorted.{All-permutation, ranks_by, sorted_far}
use Rattle.labels.specs.Labels.{Labels, Point, labels_cmp, point_cmp, same_labels}
use Rattle.labels.specs.Contents.{Content}
use Rattle.labels.specs.Rows.{Row, points_in, points_of, IsFull, AreFull, AreRows}
use Rattle.labels.specs.Parts.{laid_over}
use Rattle.labels.specs.Laws.{labels_total}
use Rattle.labels.proofs.OrderLaws.{same_self}
use Rattle.labels.specs.Rows.{row_before}
use Rattle.labels.proofs.Times.{both_T, first_T, second_T, T_of, true_not_false}
use Rattle.labels.proofs.ContentLaws.{or_else, or_else_none, find-++, find-points_in, find-laid_over, is_sorted-laid_over, is_sorted-points_in, same_content}

pub row_order : IsStrictWeakOrder row_before
row_order = ranks_by labels_total (λ (r : Row). r.0)

-- the rows of one label set
abbrev pub alike : Labels → List Row → List Row
alike l rows = filter (λ r. same_labels l r.0) rows

tied : (o : Ordering) → (not (is_lt o) && not (is_lt (ordering_reverse o))) ≡ is_eq o
tied Less = refl
tied Equal = refl
tied Greater = refl

ties_same : (x y : Row) → ties row_before x y ≡ same_labels x.0 y.0
ties_same x y = ap (λ o. not (is_lt (labels_cmp x.0 y.0)) && not (is_lt o)) (labels_total.antisymm y.0 x.0) ∙ tied (labels_cmp x.0 y.0)

-- a stable sort keeps the rows of a label set
pub alike_kept : (found rows : List Row) → IsStableBy row_before found rows → (l : Labels) → alike l rows ≡ alike l found
alike_kept found rows stable l =
    let x : Row = (l, []) in
    sym (filter_agree (ties row_before x) (λ r. same_labels l r.0) (ties_same x) rows)
    ∙ stable x
    ∙ filter_agree (ties row_before x) (λ r. same_labels l r.0) (ties_same x) found

-- a sample is found among the rows of its label set
pub find-alike : (l : Labels) (t : ℤ) (rows : List Row) → find point_cmp (l, t) (points_of rows) ≡ find point_cmp (l, t) (points_of (alike l rows))
find-alike l t [] = refl
find-alike l t (r ∷ rs) =
    let row = find-points_in l t r.0 r.1 in
    let rest = find point_cmp (l, t) (points_of (alike l rs)) in
    find-++ (l, t) (points_in r.0 r.1) (points_of rs)
    ∙ (λ i. or_else (row i) (find-alike l t rs i))
    ∙ elim (same_labels l r.0) as (λ b. same_labels l r.0 ≡ b → or_else (cond b (find int_cmp t r.1) None) rest ≡ find point_cmp (l, t) (points_of (cond b (r ∷ alike l rs) (alike l rs)))) [
      | true ↦ λ e. sym (find-++ (l, t) (points_in r.0 r.1) (points_of (alike l rs)) ∙ ap (λ o. or_else o rest) (row ∙ ap (λ b. cond b (find int_cmp t r.1) None) e))
      | false ↦ λ e. refl
    ] refl

-- of every label set at most one row
abbrev pub AreApart : List Row → Type 0
AreApart rows = (l : Labels) → length (alike l rows) ≤ 1

apart-tail : (r : Row) (rs : List Row) → AreApart (r ∷ rs) → AreApart rs
apart-tail r rs apart l =
    elim (same_labels l r.0) as (λ b. length (cond b (r ∷ alike l rs) (alike l rs)) ≤ 1 → length (alike l rs) ≤ 1) [
      | true ↦ λ h. omega (arith, h)
      | false ↦ λ h. h
    ] (apart l)

none_left : (xs : List Row) → suc (length xs) ≤ 1 → xs ≡ []
none_left [] h = refl
none_left (x ∷ xs) h = absurd (omega (arith, h))

-- no other row has the label set of the first
apart-head : (r : Row) (rs : List Row) → AreApart (r ∷ rs) → alike r.0 rs ≡ []
apart-head r rs apart =
    none_left (alike r.0 rs) (subst (λ (b : Bool). length (cond b (r ∷ alike r.0 rs) (alike r.0 rs)) ≤ 1) (same_self r.0) (apart r.0))

before_by : (o : Ordering) → is_lt (ordering_reverse o) ≡ false → is_eq o ≡ false → T (is_lt o)
before_by Less a b = tt
before_by Equal a b = true_not_false b
before_by Greater a b = true_not_false a

pub not_cons : {X : Type 0} (x : X) (xs : List X) → (x ∷ xs) ≡ [] → ⊥
not_cons {X} x xs e = true_not_false (ap (λ (ys : List X). elim ys as (λ _. Bool) [ [] ↦ false | z ∷ zs ↦ true ]) e)

-- a label set that no row is before, and that no row has, is before all of them
below-alike : (l : Labels) (rs : List Row) → ((k : ℕ) (d : Row) → k < length rs → is_lt (labels_cmp (get_or rs k d).0 l) ≡ false) → alike l rs ≡ [] → T (below_all labels_cmp l rs)
below-alike l [] up none = tt
below-alike l (r ∷ rs) up none =
    elim (same_labels l r.0) as (λ b. same_labels l r.0 ≡ b → cond b (r ∷ alike l rs) (alike l rs) ≡ [] → T (is_lt (labels_cmp l r.0) && below_all labels_cmp l rs)) [
      | true ↦ λ e n. absurd (not_cons r (alike l rs) n)
      | false ↦ λ e n. both_T _ _
          (before_by (labels_cmp l r.0) (sym (ap is_lt (labels_total.antisymm r.0 l)) ∙ up 0 r (omega arith)) e)
          (below-alike l rs (λ k d h. up (suc k) d (omega (arith, h))) n)
    ] refl none

pub sorted-tail : (r : Row) (rs : List Row) → IsSortedBy row_before (r ∷ rs) → IsSortedBy row_before rs
sorted-tail r rs up = λ k d low h.
    let e : suc (k + 1) ≡ (k + 1) + 1 = omega arith in
    let f : suc k ≡ k + 1 = omega arith in
    let at : row_before (get_or (r ∷ rs) ((k + 1) + 1) d) (get_or (r ∷ rs) (k + 1) d) ≡ false = up (k + 1) d (omega arith) (omega (arith, h)) in
    subst (λ (n : ℕ). row_before (get_or (r ∷ rs) (suc (k + 1)) d) (get_or (r ∷ rs) n d) ≡ false) (sym f)
    (subst (λ (n : ℕ). row_before (get_or (r ∷ rs) n d) (get_or (r ∷ rs) (k + 1) d) ≡ false) (sym e) at)

-- sorted rows of label sets that differ rise strictly
pub rises : (rows : List Row) → IsSortedBy row_before rows → AreApart rows → T (is_sorted labels_cmp rows)
rises [] up apart = tt
rises (r ∷ rs) up apart = both_T _ _
    (below-alike r.0 rs (λ k d h. sorted_far row_before row_order (r ∷ rs) up 0 (suc k) d (omega arith) (omega (arith, h))) (apart-head r rs apart))
    (rises rs (sorted-tail r rs up) (apart-tail r rs apart))

below-append : (p : Point) (xs ys : Content) → T (below_all point_cmp p xs) → T (below_all point_cmp p ys) → T (below_all point_cmp p (xs ++ ys))
below-append p [] ys h k = k
below-append p (x ∷ xs) ys h k = both_T _ _ (first_T _ _ h) (below-append p xs ys (second_T _ _ h) k)

less_is : (o : Ordering) → T (is_lt o) → o ≡ Less
less_is Less h = refl
less_is Equal h = absurd h
less_is Greater h = absurd h

below_row : (l m : Labels) (t : ℤ) (ss : List (ℤ × ℤ)) → labels_cmp l m ≡ Less → T (below_all point_cmp (l, t) (points_in m ss))
below_row l m t [] less = tt
below_row l m t (s ∷ ss) less = both_T _ _ (T_of _ (ap (λ o. is_lt (ordering_then o (int_cmp t s.0))) less)) (below_row l m t ss less)

-- a point is below the samples of rows that are above its label set
below_rows : (l : Labels) (t : ℤ) (rs : List Row) → T (below_all labels_cmp l rs) → T (below_all point_cmp (l, t) (points_of rs))
below_rows l t [] h = tt
below_rows l t (r ∷ rs) h =
    below-append (l, t) (points_in r.0 r.1) (points_of rs) (below_row l r.0 t r.1 (less_is _ (first_T _ _ h))) (below_rows l t rs (second_T _ _ h))

sorted-before : (l : Labels) (ss : List (ℤ × ℤ)) (c : Content) → T (is_sorted point_cmp (points_in l ss)) → T (is_sorted point_cmp c) → ((t : ℤ) → T (below_all point_cmp (l, t) c)) → T (is_sorted point_cmp (points_in l ss ++ c))
sorted-before l [] c h k below = k
sorted-before l (s ∷ ss) c h k below = both_T _ _
    (below-append (l, s.0) (points_in l ss) c (first_T _ _ h) (below s.0))
    (sorted-before l ss c (second_T _ _ h) k below)

-- rows that rise, each with rising times, list their samples in the order of points
pub is_sorted-points_of : (rows : List Row) → T (is_sorted labels_cmp rows) → All (λ r. T (is_sorted int_cmp r.1)) rows → T (is_sorted point_cmp (points_of rows))
is_sorted-points_of [] h times = tt
is_sorted-points_of (r ∷ rs) h times =
    sorted-before r.0 r.1 (points_of rs)
    (subst T (sym (is_sorted-points_in r.0 r.1)) (All-head (λ (x : Row). T (is_sorted int_cmp x.1)) r rs times))
    (is_sorted-points_of rs (second_T _ _ h) (All-tail (λ (x : Row). T (is_sorted int_cmp x.1)) r rs times))
    (λ t. below_rows r.0 t rs (first_T _ _ h))

pub all_full : (rows : List Row) → All IsFull rows → AreFull rows
all_full [] h = tt
all_full (r ∷ rs) h = (All-head IsFull r rs h, all_full rs (All-tail IsFull r rs h))

-- sorted by their label sets, rows with one for each label set are the rows of what they list
pub AreRows-sorted : (found rows : List Row) → IsPermutation found rows → IsSortedBy row_before rows → IsStableBy row_before found rows
    → AreApart found → All IsFull found → All (λ r. T (is_sorted int_cmp r.1)) found → AreRows rows (laid_over (points_of found) [])
AreRows-sorted found rows moved up stable apart full times =
    let same = alike_kept found rows stable in
    let rising = rises rows up (λ l. subst (λ (xs : List Row). length xs ≤ 1) (sym (same l)) (apart l)) in
    record {
      points = same_content (points_of rows) (laid_over (points_of found) [])
          (is_sorted-points_of rows rising (All-permutation (λ (r : Row). T (is_sorted int_cmp r.1)) found rows moved times))
          (is_sorted-laid_over (points_of found) [] tt)
          (λ q. find-alike q.0 q.1 rows
          ∙ ap (λ xs. find point_cmp q (points_of xs)) (same q.0)
          ∙ sym (find-alike q.0 q.1 found)
          ∙ sym (find-laid_over q (points_of found) [] ∙ or_else_none (find point_cmp q (points_of found))));
      ascending = rising;
      full = all_full rows (All-permutation IsFull found rows moved full);
    }
