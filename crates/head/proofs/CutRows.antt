-- The rows of a head in a range of times are those of its samples there.
use Rattle.std.proofs.Common.{◌≡◌, ◌≤◌, ℤ, Bool, true, false, cond, T, List, [], ◌∷◌, ◌++◌, None, Some, length, refl, sym, ◌∙◌, ap, subst, arith}
use Rattle.std.specs.Prelude.{is_some}
use Rattle.std.specs.List.{All}
use Rattle.std.specs.List.Sorted.{IsPermutation, IsSortedBy, IsStableBy}
use Rattle.std.specs.Ordering.{int_cmp}
use Rattle.std.specs.FinMap.Entries.{is_sorted, is_sorted-where_key}
use Rattle.std.proofs.lemmas.List.Elements.{All-cons, All-nil}
use Rattle.labels.specs.Labels.{Labels, same_labels}
use Rattle.labels.specs.Contents.{in_range}
use Rattle.labels.specs.Rows.{Row, points_in, points_of, IsFull, AreRows, row_before}
use Rattle.labels.specs.Parts.{laid_over, within}
use Rattle.labels.proofs.Times.{true_not_false}
use Rattle.labels.proofs.Restricting.{kept, kept-++, kept-points_in}
use Rattle.labels.proofs.SortedRows.{alike, AreApart, not_cons, AreRows-sorted}
use Rattle.head.specs.Heads.{HeadSeries, series_at, IsSoundHead}
use Rattle.head.specs.HeadRows.{with_row, rows_within}
use Rattle.head.proofs.HeadLaws.{head_points, same_path}

points-with_row : (l : Labels) (ss : List (ℤ × ℤ)) (rows : List Row) → points_of (with_row l ss rows) ≡ points_in l ss ++ points_of rows
points-with_row l [] rows = refl
points-with_row l (s ∷ ss) rows = refl

module _ (from to : ℤ) where
  -- what the rows list is what lies in the range of the head's samples
  pub points-rows_within : (hs : List HeadSeries) → points_of (rows_within from to hs) ≡ kept (λ q. in_range from to q.1) (head_points hs)
  points-rows_within [] = refl
  points-rows_within (h ∷ hs) =
      points-with_row h.labels (within from to h.samples) (rows_within from to hs)
      ∙ sym (kept-++ (λ q. in_range from to q.1) (points_in h.labels h.samples) (head_points hs)
      ∙ (λ i. kept-points_in (λ q. in_range from to q.1) h.labels h.samples i ++ sym (points-rows_within hs) i))

  apart_first : (l : Labels) (h : HeadSeries) (hs : List HeadSeries) → series_at l (h ∷ hs) ≡ None → same_labels l h.labels ≡ false
  apart_first l h hs none =
      elim (same_labels l h.labels) as (λ b. cond b (Some h) (series_at l hs) ≡ None → b ≡ false) [
        | true ↦ λ e. absurd (true_not_false (ap is_some e))
        | false ↦ λ e. refl
      ] none

  absent_rest : (l : Labels) (h : HeadSeries) (hs : List HeadSeries) → series_at l (h ∷ hs) ≡ None → series_at l hs ≡ None
  absent_rest l h hs none =
      elim (same_labels l h.labels) as (λ b. cond b (Some h) (series_at l hs) ≡ None → series_at l hs ≡ None) [
        | true ↦ λ e. absurd (true_not_false (ap is_some e))
        | false ↦ λ e. e
      ] none

  -- no row has a label set that no series has
  none_alike : (l : Labels) (hs : List HeadSeries) → series_at l hs ≡ None → alike l (rows_within from to hs) ≡ []
  none_alike l [] none = refl
  none_alike l (h ∷ hs) none =
      let rest = none_alike l hs (absent_rest l h hs none) in
      elim (within from to h.samples) as (λ ss. alike l (with_row h.labels ss (rows_within from to hs)) ≡ []) [
        | [] ↦ rest
        | s ∷ ss ↦ ap (λ b. cond b ((h.labels, s ∷ ss) ∷ alike l (rows_within from to hs)) (alike l (rows_within from to hs))) (apart_first l h hs none) ∙ rest
      ]

  one_at_most : (b : Bool) (r : Row) (rs : List Row) → length rs ≤ 1 → (b ≡ true → rs ≡ []) → length (cond b (r ∷ rs) rs) ≤ 1
  one_at_most true r rs h none = subst (λ (xs : List Row). length (r ∷ xs) ≤ 1) (sym (none refl)) (omega arith)
  one_at_most false r rs h none = h

  apart_within : (floor : ℤ) (hs : List HeadSeries) → IsSoundHead floor hs → AreApart (rows_within from to hs)
  apart_within floor [] sound l = omega arith
  apart_within floor (h ∷ hs) sound l =
      let rest = apart_within floor hs sound.2 l in
      elim (within from to h.samples) as (λ ss. length (alike l (with_row h.labels ss (rows_within from to hs))) ≤ 1) [
        | [] ↦ rest
        | s ∷ ss ↦ one_at_most (same_labels l h.labels) (h.labels, s ∷ ss) (alike l (rows_within from to hs)) rest
            (λ e. none_alike l hs (subst (λ (k : Labels). series_at k hs ≡ None) (sym (same_path l h.labels e)) sound.1))
      ]

  full_within : (hs : List HeadSeries) → All IsFull (rows_within from to hs)
  full_within [] = All-nil IsFull
  full_within (h ∷ hs) =
      elim (within from to h.samples) as (λ ss. All IsFull (with_row h.labels ss (rows_within from to hs))) [
        | [] ↦ full_within hs
        | s ∷ ss ↦ All-cons IsFull (h.labels, s ∷ ss) (rows_within from to hs) (not_cons s ss) (full_within hs)
      ]

  times_within : (floor : ℤ) (hs : List HeadSeries) → IsSoundHead floor hs → All (λ r. T (is_sorted int_cmp r.1)) (rows_within from to hs)
  times_within floor [] sound = All-nil (λ (r : Row). T (is_sorted int_cmp r.1))
  times_within floor (h ∷ hs) sound =
      elim (within from to h.samples) as (λ ss. T (is_sorted int_cmp ss) → All (λ (r : Row). T (is_sorted int_cmp r.1)) (with_row h.labels ss (rows_within from to hs))) [
        | [] ↦ λ up. times_within floor hs sound.2
        | s ∷ ss ↦ λ up. All-cons (λ (r : Row). T (is_sorted int_cmp r.1)) (h.labels, s ∷ ss) (rows_within from to hs) up (times_within floor hs sound.2)
      ] (is_sorted-where_key int_cmp (in_range from to) h.samples sound.0.ascending)

  -- in label order they are the rows of what they list
  pub AreRows-within : (floor : ℤ) (hs : List HeadSeries) → IsSoundHead floor hs → (rows : List Row) → IsPermutation (rows_within from to hs) rows
      → IsSortedBy row_before rows → IsStableBy row_before (rows_within from to hs) rows → AreRows rows (laid_over (points_of (rows_within from to hs)) [])
  AreRows-within floor hs sound rows moved up stable =
      AreRows-sorted (rows_within from to hs) rows moved up stable (apart_within floor hs sound) (full_within hs) (times_within floor hs sound)
