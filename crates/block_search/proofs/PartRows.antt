-- The rows with which a part answers are those of its content.
use Rattle.std.proofs.Common.{◌≡◌, ℕ, ◌≤◌, ℤ, Bool, true, false, cond, T, List, [], ◌∷◌, ◌++◌}
use Rattle.std.proofs.Common.{length, map, refl, sym, ◌∙◌, ap, subst, arith}
use Rattle.std.specs.Prelude.{◌&&◌, ◌||◌, ◌≢◌}
use Rattle.std.specs.List.{filter, Contains, All}
use Rattle.std.specs.List.Sorted.{IsPermutation, IsSortedBy, IsStableBy}
use Rattle.std.specs.Ordering.{int_cmp}
use Rattle.std.specs.Cmp.{Equal-is}
use Rattle.std.specs.FinMap.Entries.{is_sorted, is_sorted-where_key}
use Rattle.std.proofs.lemmas.List.Elements.{All-cons, All-nil}
use Rattle.labels.specs.Labels.{Labels, labels_cmp, same_labels}
use Rattle.labels.specs.Contents.{Content, in_range, selected}
use Rattle.labels.specs.Rows.{Row, points_in, points_of, IsFull, AreRows}
use Rattle.labels.specs.Parts.{Part, AreDistinct, IsPart, has_sample, rows_in, laid_over}
use Rattle.labels.specs.Parts.{content_of, part_kept}
use Rattle.labels.proofs.Lists.{here, there}
use Rattle.labels.proofs.OrderLaws.{labels_exact}
use Rattle.labels.proofs.Times.{true_not_false}
use Rattle.labels.proofs.Restricting.{kept-over}
use Rattle.labels.specs.Rows.{row_before}
use Rattle.block_search.specs.Answering.{row_within}
use Rattle.block_search.proofs.Found.{answers, rows_found}
use Rattle.labels.proofs.SortedRows.{alike, AreApart, not_cons, AreRows-sorted}

module _ (sat : Labels → Bool) (from to : ℤ) where
  -- no row of a label set that no series has
  none_alike : (l : Labels) (part : Part) → ((other : ℕ × Row) → Contains part other
      → same_labels l other.1.0 ≡ false) → alike l (rows_found sat from to part) ≡ []
  none_alike l [] apart = refl
  none_alike l (r ∷ rs) apart =
      let rest = none_alike l rs (λ o h. apart o (there r o rs h)) in
      elim (answers sat from to r) as (λ b. alike l (map (λ row. row_within from to row.1)
      (cond b (r ∷ filter (answers sat from to) rs) (filter (answers sat from to) rs))) ≡ []) [
        | true ↦ ap (λ b. cond b (row_within from to r.1 ∷ alike l (rows_found sat from to rs))
            (alike l (rows_found sat from to rs))) (apart r (here r rs)) ∙ rest
        | false ↦ rest
      ]

  one_at_most : (b : Bool) (r : Row) (rs : List Row) → length rs ≤ 1 → (b ≡ true → rs ≡ [])
      → length (cond b (r ∷ rs) rs) ≤ 1
  one_at_most true r rs h none = subst (λ (xs : List Row). length (r ∷ xs) ≤ 1) (sym (none refl))
      (omega arith)
  one_at_most false r rs h none = h

  pub apart_found : (part : Part) → AreDistinct part → AreApart (rows_found sat from to part)
  apart_found [] apart l = omega arith
  apart_found (r ∷ rs) apart l =
      let rest = apart_found rs apart.1 l in
      elim (answers sat from to r) as (λ b. length
      (alike l (map (λ row. row_within from to row.1)
      (cond b (r ∷ filter (answers sat from to) rs) (filter (answers sat from to) rs)))) ≤ 1) [
        | true ↦ one_at_most (same_labels l r.1.0) (row_within from to r.1)
            (alike l (rows_found sat from to rs)) rest
            (λ e. none_alike l rs (λ o h. ap (λ (k : Labels). same_labels k o.1.0)
            (labels_exact l r.1.0 ((Equal-is (labels_cmp l r.1.0)).0 e)) ∙ apart.0 o h))
        | false ↦ rest
      ]

  some_kept : (ss : List (ℤ × ℤ)) → has_sample from to ss ≡ true → filter
      (λ (s : ℤ × ℤ). in_range from to s.0) ss ≢ []
  some_kept [] e none = true_not_false (sym e)
  some_kept (s ∷ ss) e none =
      elim (in_range from to s.0) as (λ b. (b || has_sample from to ss) ≡ true
      → cond b (s ∷ filter (λ (s : ℤ × ℤ). in_range from to s.0) ss)
      (filter (λ (s : ℤ × ℤ). in_range from to s.0) ss) ≡ [] → ⊥) [
        | true ↦ λ e n. not_cons s (filter (λ (s : ℤ × ℤ). in_range from to s.0) ss) n
        | false ↦ λ e n. some_kept ss e n
      ] e none

  both_true : (a b : Bool) → (a && b) ≡ true → b ≡ true
  both_true true b e = e
  both_true false b e = absurd (true_not_false (sym e))

  pub full_found : (part : Part) → All IsFull (rows_found sat from to part)
  full_found [] = All-nil IsFull
  full_found (r ∷ rs) =
      let rest = full_found rs in
      elim (answers sat from to r) as (λ b. answers sat from to r ≡ b → All IsFull
      (map (λ row. row_within from to row.1) (cond b (r ∷ filter (answers sat from to) rs)
      (filter (answers sat from to) rs)))) [
        | true ↦ λ e. All-cons IsFull (row_within from to r.1) (rows_found sat from to rs)
            (some_kept r.1.1 (both_true (sat r.1.0) _ e)) rest
        | false ↦ λ e. rest
      ] refl

  pub times_found : (part : Part) → ((row : ℕ × Row) → Contains part row
      → T (is_sorted int_cmp row.1.1)) → All (λ r. T (is_sorted int_cmp r.1))
      (rows_found sat from to part)
  times_found [] times = All-nil (λ (r : Row). T (is_sorted int_cmp r.1))
  times_found (r ∷ rs) times =
      let rest = times_found rs (λ row h. times row (there r row rs h)) in
      elim (answers sat from to r) as (λ b. All (λ (r : Row). T (is_sorted int_cmp r.1))
      (map (λ row. row_within from to row.1) (cond b (r ∷ filter (answers sat from to) rs)
      (filter (answers sat from to) rs)))) [
        | true ↦ All-cons (λ (r : Row). T (is_sorted int_cmp r.1)) (row_within from to r.1)
            (rows_found sat from to rs) (is_sorted-where_key int_cmp (in_range from to) r.1.1
            (times r (here r rs))) rest
        | false ↦ rest
      ]

  none_pass : (ss : List (ℤ × ℤ)) → filter (λ (s : ℤ × ℤ). false) ss ≡ []
  none_pass [] = refl
  none_pass (s ∷ ss) = none_pass ss

  none_within : (ss : List (ℤ × ℤ)) → has_sample from to ss ≡ false → filter
      (λ (s : ℤ × ℤ). in_range from to s.0) ss ≡ []
  none_within [] e = refl
  none_within (s ∷ ss) e =
      elim (in_range from to s.0) as (λ b. (b || has_sample from to ss) ≡ false
      → cond b (s ∷ filter (λ (s : ℤ × ℤ). in_range from to s.0) ss)
      (filter (λ (s : ℤ × ℤ). in_range from to s.0) ss) ≡ []) [
        | true ↦ λ e. absurd (true_not_false e)
        | false ↦ λ e. none_within ss e
      ] e

  kept_row : (b : Bool) (l : Labels) (ss : List (ℤ × ℤ)) (c : Content) → points_in l
      (filter (λ (s : ℤ × ℤ). b && in_range from to s.0) ss) ++ c
      ≡ cond (b && has_sample from to ss)
      (points_in l (filter (λ (s : ℤ × ℤ). in_range from to s.0) ss) ++ c) c
  kept_row false l ss c = ap (λ xs. points_in l xs ++ c) (none_pass ss)
  kept_row true l ss c =
      let kept = filter (λ (s : ℤ × ℤ). in_range from to s.0) ss in
      elim (has_sample from to ss) as (λ b. has_sample from to ss ≡ b → points_in l kept ++ c
      ≡ cond b (points_in l kept ++ c) c) [
        | true ↦ λ e. refl
        | false ↦ λ e. ap (λ xs. points_in l xs ++ c) (none_within ss e)
      ] refl

  found_row : (b : Bool) (r : ℕ × Row) (rows : Part)
      → points_of (map (λ row. row_within from to row.1) (cond b (r ∷ rows) rows))
      ≡ cond b (points_in r.1.0 (filter (λ (s : ℤ × ℤ). in_range from to s.0) r.1.1)
      ++ points_of (map (λ row. row_within from to row.1) rows)) (points_of
      (map (λ row. row_within from to row.1) rows))
  found_row true r rows = refl
  found_row false r rows = refl

  -- what passes of the samples of a part is what the rows list
  pub points_found : (part : Part) → points_of
      (rows_in (part_kept (λ p. sat p.0 && in_range from to p.1) part))
      ≡ points_of (rows_found sat from to part)
  points_found [] = refl
  points_found (r ∷ rs) =
      kept_row (sat r.1.0) r.1.0 r.1.1 (points_of
      (rows_in (part_kept (λ p. sat p.0 && in_range from to p.1) rs)))
      ∙ ap (λ c. cond (answers sat from to r)
      (points_in r.1.0 (filter (λ (s : ℤ × ℤ). in_range from to s.0) r.1.1) ++ c) c)
      (points_found rs)
      ∙ sym (found_row (answers sat from to r) r (filter (answers sat from to) rs))

  pub AreRows-found : (part : Part) → IsPart part → (rows : List Row) → IsPermutation
      (rows_found sat from to part) rows
      → IsSortedBy row_before rows → IsStableBy row_before (rows_found sat from to part) rows
      → AreRows rows (selected sat from to (content_of (part ∷ [])))
  AreRows-found part is rows moved up stable =
      let listed = AreRows-sorted (rows_found sat from to part) rows moved up stable
      (apart_found part is.distinct) (full_found part) (times_found part is.times) in
      subst (AreRows rows)
      (ap (λ es. laid_over es []) (sym (points_found part))
      ∙ sym (kept-over (λ p. sat p.0 && in_range from to p.1) (part ∷ []) [] tt))
      listed
