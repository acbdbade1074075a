-- What rows say, whether those of one metric stand together or not.
use Rattle.std.proofs.Common.{◌≡◌, ℤ, Bool, true, false, List, [], ◌∷◌, ◌++◌, length}
use Rattle.std.proofs.Common.{refl, sym, ap, subst, ◌∙◌, inl, inr, Some, cond}
use Rattle.std.specs.Prelude.{T, filter}
use Rattle.std.specs.List.{flat_map, sum_by}
use Rattle.std.specs.Str.{bytes_eq}
use Rattle.std.specs.Ordering.{eq_by_cmp, is_eq, ordering_then}
use Rattle.std.specs.declared.cmp.Ordering.{Ordering}
use Rattle.std.specs.declared.cmp.Ordering.TheVariants.{Less, Equal, Greater}
use Rattle.std.specs.FinMap.Entries.{put, find, is_sorted, is_sorted-put, find-put, same_entries}
use Rattle.std.proofs.lemmas.Bool.{cases_Bool}
use Rattle.std.proofs.lemmas.List.Concat.{length-flat_map}
use Rattle.std.proofs.lemmas.List.Elements.{filter-append}
use Rattle.std.proofs.lemmas.List.Sorted.{sum_by-IsPermutation}
use Rattle.labels.specs.Contents.{Content}
use Rattle.labels.specs.Labels.{Labels, Point, labels_cmp, point_cmp, same_labels}
use Rattle.labels.specs.Rows.{Row, points_in, points_of}
use Rattle.labels.proofs.OrderLaws.{labels_exact, point_exact, point_total}
use Rattle.labels.proofs.Texts.{bytes_self}
use Rattle.metrics_writer.specs.Groups.{grouped, is_of, of_metric}
use Rattle.metrics_writer.specs.Series.{metric_of}
use Rattle.metrics_writer.proofs.Grouping.{grouped_permuted, of_grouped}
use Rattle.exposition.specs.Rows.{put_each}

-- whether a sample stands at this point
abbrev at_point : Point → Point × ℤ → Bool
at_point q e = eq_by_cmp point_cmp q e.0

-- at a point only the samples there count
found_at : (q : Point) (es c d : Content) → find point_cmp q c ≡ find point_cmp q d
    → find point_cmp q (put_each c es) ≡ find point_cmp q (put_each d (filter (at_point q) es))
found_at q [] c d same = same
found_at q (e ∷ es) c d same =
    elim (cases_Bool (at_point q e)) [
      | inl here ↦ rw here (found_at q es (put point_cmp e.0 e.1 c) (put point_cmp e.0 e.1 d)
          (find-put point_cmp point_total q e.0 e.1 c
          ∙ (ap (cond (at_point q e) (Some e.1)) same
          ∙ sym (find-put point_cmp point_total q e.0 e.1 d))))
      | inr apart ↦
          let kept : find point_cmp q (put point_cmp e.0 e.1 c) ≡ find point_cmp q c =
          find-put point_cmp point_total q e.0 e.1 c
          ∙ ap (λ (b : Bool). cond b (Some e.1) (find point_cmp q c)) apart in
          rw apart (found_at q es (put point_cmp e.0 e.1 c) d (kept ∙ same))
    ]

equal_is : (o : Ordering) → is_eq o ≡ true → o ≡ Equal
equal_is Less e = absurd cc
equal_is Equal e = refl
equal_is Greater e = absurd cc

then_apart : (a b : Ordering) → is_eq a ≡ false → is_eq (ordering_then a b) ≡ false
then_apart Less b e = refl
then_apart Equal b e = absurd cc
then_apart Greater b e = refl

-- label sets of two metrics differ
sets_apart : (k l : Labels) → bytes_eq (metric_of k) (metric_of l) ≡ false
    → same_labels k l ≡ false
sets_apart k l apart =
    elim (cases_Bool (same_labels k l)) [
      | inl e ↦ absurd (
          let same : k ≡ l = labels_exact k l (equal_is (labels_cmp k l) e) in
          let one : bytes_eq (metric_of k) (metric_of k) ≡ false =
          subst (λ (x : Labels). bytes_eq (metric_of k) (metric_of x) ≡ false) (sym same) apart in
          let two = bytes_self (metric_of k) in
          cc)
      | inr e ↦ e
    ]

none_there : (q : Point) (l : Labels) (ss : List (ℤ × ℤ)) → same_labels q.0 l ≡ false
    → filter (at_point q) (points_in l ss) ≡ []
none_there q l [] apart = refl
none_there q l (s ∷ ss) apart =
    let other : at_point q ((l, s.0), s.1) ≡ false = then_apart (labels_cmp q.0 l) _ apart in
    rw other (none_there q l ss apart)

-- at a point only the rows of its metric count
points_there : (q : Point) (rows : List Row)
    → filter (at_point q) (points_of rows)
    ≡ filter (at_point q) (points_of (of_metric (metric_of q.0) rows))
points_there q [] = refl
points_there q (row ∷ rows) =
    let m = metric_of q.0 in
    let here = points_in row.0 row.1 in
    let split = filter-append (at_point q) here (points_of rows) in
    elim (cases_Bool (is_of m row)) [
      | inl e ↦
          let again = filter-append (at_point q) here (points_of (of_metric m rows)) in
          rw e
          (split
          ∙ (ap (λ (r : Content). filter (at_point q) here ++ r) (points_there q rows)
          ∙ sym again))
      | inr e ↦
          let none = none_there q row.0 row.1 (sets_apart q.0 row.0 e) in
          rw e
          (split
          ∙ (ap (λ (r : Content). r ++ filter (at_point q) (points_of rows)) none
          ∙ points_there q rows))
    ]

each_sorted : (c es : Content) → T (is_sorted point_cmp c) → T (is_sorted point_cmp (put_each c es))
each_sorted c [] rise = rise
each_sorted c (e ∷ es) rise =
    each_sorted (put point_cmp e.0 e.1 c) es (is_sorted-put point_cmp point_total e.0 e.1 c rise)

pub content_grouped : (rows : List Row)
    → put_each [] (points_of (grouped rows)) ≡ put_each [] (points_of rows)
content_grouped rows =
    same_entries point_cmp point_total point_exact _ _ (each_sorted [] (points_of (grouped rows)) tt)
    (each_sorted [] (points_of rows) tt)
    (λ q.
    let same : filter (at_point q) (points_of (grouped rows)) ≡ filter (at_point q) (points_of rows)
    =
    points_there q (grouped rows)
    ∙ (ap (λ (r : List Row). filter (at_point q) (points_of r)) (of_grouped (metric_of q.0) rows)
    ∙ sym (points_there q rows)) in
    found_at q (points_of (grouped rows)) [] [] refl
    ∙ (ap (λ (es : Content). find point_cmp q (put_each [] es)) same
    ∙ sym (found_at q (points_of rows) [] [] refl)))

points_flat : (rows : List Row) → points_of rows ≡ flat_map (λ row. points_in row.0 row.1) rows
points_flat [] = refl
points_flat (row ∷ rows) = ap (λ (r : Content). points_in row.0 row.1 ++ r) (points_flat rows)

count_is : (rows : List Row)
    → length (points_of rows) ≡ sum_by (λ (row : Row). length (points_in row.0 row.1)) rows
count_is rows = ap length (points_flat rows) ∙ length-flat_map _ rows

pub count_grouped : (rows : List Row) → length (points_of (grouped rows)) ≡ length (points_of rows)
count_grouped rows =
    count_is (grouped rows)
    ∙ (sum_by-IsPermutation _ rows (grouped rows) (grouped_permuted rows) ∙ sym (count_is rows))
