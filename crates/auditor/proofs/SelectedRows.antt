-- The rows of the series that answer, put in label order, are those that are selected of the part's
-- content.
use Rattle.std.proofs.Common.{◌≡◌, ℕ, ◌≤◌, ℤ, Bool, true, false, cond, T, List, [], ◌∷◌, ◌++◌, length, map, refl, sym, ◌∙◌, ap, subst, arith}
use Rattle.std.specs.Prelude.{◌&&◌, ◌||◌, ◌≢◌}
use Rattle.std.specs.List.{filter, list_any, Contains, All}
use Rattle.std.specs.List.Sorted.{IsPermutation, IsSortedBy, IsStableBy}
use Rattle.std.specs.Ordering.{int_cmp}
use Rattle.std.specs.Cmp.{Equal-is}
use Rattle.std.specs.declared.cmp.Ordering.TheVariants.{Less, Equal, Greater}
use Rattle.std.specs.FinMap.Entries.{put, by_order, is_sorted, is_sorted-where_key}
use Rattle.std.proofs.lemmas.List.Elements.{All-cons, All-nil}
use Rattle.labels.specs.Labels.{Labels, Point, labels_cmp, point_cmp, same_labels}
use Rattle.labels.specs.Contents.{Content, in_range, selected}
use Rattle.labels.specs.Rows.{Row, points_in, points_of, IsFull, AreRows}
use Rattle.labels.specs.Parts.{Part, AreDistinct, IsPart, has_sample, rows_in, laid_over, content_of, part_kept}
use Rattle.labels.proofs.Lists.{here, there}
use Rattle.labels.proofs.OrderLaws.{labels_exact}
use Rattle.labels.proofs.Times.{true_not_false}
use Rattle.labels.proofs.Restricting.{kept-over}
use Rattle.labels.specs.Rows.{row_before}
use Rattle.auditor.specs.Looking.{row_within}
use Rattle.labels.proofs.SortedRows.{alike, AreApart, not_cons, AreRows-sorted}

-- whether a series answers: its label set passes the test, and it has a sample in the closed range
abbrev pub answers : (Labels → Bool) → ℤ → ℤ → ℕ × Row → Bool
answers sat from to row = sat row.1.0 && has_sample from to row.1.1

-- the rows of the series of a part that answer, in the order of their references
abbrev pub rows_found : (Labels → Bool) → ℤ → ℤ → Part → List Row
rows_found sat from to part =
    map (λ row. row_within from to row.1) (filter (answers sat from to) part)

module _ (sat : Labels → Bool) (from to : ℤ) where
  -- no row of a label set that no series has
  none_alike : (l : Labels) (part : Part)
      → ((other : ℕ × Row) → Contains part other → same_labels l other.1.0 ≡ false)
      → alike l (rows_found sat from to part) ≡ []
  none_alike l [] apart = refl
  none_alike l (r ∷ rs) apart =
      let rest = none_alike l rs (λ o h. apart o (there r o rs h)) in
      elim (answers sat from to r) as (λ b. alike l (map (λ row. row_within from to row.1)
      (cond b (r ∷ filter (answers sat from to) rs) (filter (answers sat from to) rs))) ≡ []) [
        | true ↦
            ap (λ b. cond b (row_within from to r.1 ∷ alike l (rows_found sat from to rs))
            (alike l (rows_found sat from to rs))) (apart r (here r rs))
            ∙ rest
        | false ↦ rest
      ]

  one_at_most : (b : Bool) (r : Row) (rs : List Row) → length rs ≤ 1 → (b ≡ true → rs ≡ [])
      → length (cond b (r ∷ rs) rs) ≤ 1
  one_at_most true r rs h none =
      subst (λ (xs : List Row). length (r ∷ xs) ≤ 1) (sym (none refl)) (omega arith)
  one_at_most false r rs h none = h

  pub apart_found : (part : Part) → AreDistinct part → AreApart (rows_found sat from to part)
  apart_found [] apart l = omega arith
  apart_found (r ∷ rs) apart l =
      let rest = apart_found rs apart.1 l in
      elim (answers sat from to r) as (λ b. length (alike l (map (λ row. row_within from to row.1)
      (cond b (r ∷ filter (answers sat from to) rs) (filter (answers sat from to) rs)))) ≤ 1) [
        | true ↦
            one_at_most (same_labels l r.1.0) (row_within from to r.1)
            (alike l (rows_found sat from to rs)) rest
            (λ e. none_alike l rs (λ o h. ap (λ (k : Labels). same_labels k o.1.0)
            (labels_exact l r.1.0 ((Equal-is (labels_cmp l r.1.0)).0 e))
            ∙ apart.0 o h))
        | false ↦ rest
      ]

  some_kept : (ss : List (ℤ × ℤ)) → has_sample from to ss ≡ true
      → filter (λ (s : ℤ × ℤ). in_range from to s.0) ss ≢ []
  some_kept [] e none = true_not_false (sym e)
  some_kept (s ∷ ss) e none =
      elim (in_range from to s.0) as (λ b. (b || has_sample from to ss) ≡ true
      → cond b (s ∷ filter (λ (s : ℤ × ℤ). in_range from to s.0) ss)
      (filter (λ (s : ℤ × ℤ). in_range from to s.0) ss) ≡ [] → ⊥) [
        | true ↦ λ e n. not_cons s (filter (λ (s : ℤ × ℤ). in_range from to s.0) ss) n
        | false ↦ λ e n. some_kept ss e n
      ] e none

  both_true : (a b : Bool) → (a && b) ≡ true → b ≡ true
  both_true true b e = e
  both_true false b e = absurd (true_not_false (sym e))

  pub full_found : (part : Part) → All IsFull (rows_found sat from to part)
  full_found [] = All-nil IsFull
  full_found (r ∷ rs) =
      let rest = full_found rs in
      elim (answers sat from to r)
      as (λ b. answers sat from to r ≡ b → All IsFull (map (λ row. row_within from to row.1)
      (cond b (r ∷ filter (answers sat from to) rs) (filter (answers sat from to) rs)))) [
        | true ↦
            λ e. All-cons IsFull (row_within from to r.1) (rows_found sat from to rs)
            (some_kept r.1.1 (both_true (sat r.1.0) _ e)) rest
        | false ↦ λ e. rest
      ] refl

  pub times_found : (part : Part)
      → ((row : ℕ × Row) → Contains part row → T (is_sorted int_cmp row.1.1))
      → All (λ r. T (is_sorted int_cmp r.1)) (rows_found sat from to part)
  times_found [] times = All-nil (λ (r : Row). T (is_sorted int_cmp r.1))
  times_found (r ∷ rs) times =
      let rest = times_found rs (λ row h. times row (there r row rs h)) in
      elim (answers sat from to r)
      as (λ b. All (λ (r : Row). T (is_sorted int_cmp r.1)) (map (λ row. row_within from to row.1)
      (cond b (r ∷ filter (answers sat from to) rs) (filter (answers sat from to) rs)))) [
        | true ↦
            All-cons (λ (r : Row). T (is_sorted int_cmp r.1)) (row_within from to r.1)
            (rows_found sat from to rs)
            (is_sorted-where_key int_cmp (in_range from to) r.1.1 (times r (here r rs))) rest
        | false ↦ rest
      ]

  none_pass : (ss : List (ℤ × ℤ)) → filter (λ (s : ℤ × ℤ). false) ss ≡ []
  none_pass [] = refl
  none_pass (s ∷ ss) = none_pass ss

  none_within : (ss : List (ℤ × ℤ)) → has_sample from to ss ≡ false
      → filter (λ (s : ℤ × ℤ). in_range from to s.0) ss ≡ []
  none_within [] e = refl
  none_within (s ∷ ss) e =
      elim (in_range from to s.0) as (λ b. (b || has_sample from to ss) ≡ false
      → cond b (s ∷ filter (λ (s : ℤ × ℤ). in_range from to s.0) ss)
      (filter (λ (s : ℤ × ℤ). in_range from to s.0) ss) ≡ []) [
        | true ↦ λ e. absurd (true_not_false e)
        | false ↦ λ e. none_within ss e
      ] e

  kept_row : (b : Bool) (l : Labels) (ss : List (ℤ × ℤ)) (c : Content)
      → points_in l (filter (λ (s : ℤ × ℤ). b && in_range from to s.0) ss) ++ c
      ≡ cond (b && has_sample from to ss)
      (points_in l (filter (λ (s : ℤ × ℤ). in_range from to s.0) ss) ++ c) c
  kept_row false l ss c = ap (λ xs. points_in l xs ++ c) (none_pass ss)
  kept_row true l ss c =
      let kept = filter (λ (s : ℤ × ℤ). in_range from to s.0) ss in
      elim (has_sample from to ss) as (λ b. has_sample from to ss ≡ b
      → points_in l kept ++ c ≡ cond b (points_in l kept ++ c) c) [
        | true ↦ λ e. refl
        | false ↦ λ e. ap (λ xs. points_in l xs ++ c) (none_within ss e)
      ] refl

  found_row : (b : Bool) (r : ℕ × Row) (rows : Part)
      → points_of (map (λ row. row_within from to row.1) (cond b (r ∷ rows) rows))
      ≡ cond b (points_in r.1.0 (filter (λ (s : ℤ × ℤ). in_range from to s.0) r.1.1)
      ++ points_of (map (λ row. row_within from to row.1) rows))
      (points_of (map (λ row. row_within from to row.1) rows))
  found_row true r rows = refl
  found_row false r rows = refl

  -- what passes of the samples of a part is what the rows list
  pub points_found : (part : Part)
      → points_of (rows_in (part_kept (λ p. sat p.0 && in_range from to p.1) part))
      ≡ points_of (rows_found sat from to part)
  points_found [] = refl
  points_found (r ∷ rs) =
      kept_row (sat r.1.0) r.1.0 r.1.1
      (points_of (rows_in (part_kept (λ p. sat p.0 && in_range from to p.1) rs)))
      ∙ ap (λ c. cond (answers sat from to r) (points_in r.1.0
      (filter (λ (s : ℤ × ℤ). in_range from to s.0) r.1.1) ++ c) c) (points_found rs)
      ∙ sym (found_row (answers sat from to r) r (filter (answers sat from to) rs))

  pub AreRows-found : (part : Part) → IsPart part → (rows : List Row)
      → IsPermutation (rows_found sat from to part) rows
      → IsSortedBy row_before rows → IsStableBy row_before (rows_found sat from to part) rows
      → AreRows rows (selected sat from to (content_of (part ∷ [])))
  AreRows-found part is rows moved up stable =
      let listed =
      AreRows-sorted (rows_found sat from to part) rows moved up stable
      (apart_found part is.distinct) (full_found part) (times_found part is.times) in
      subst (AreRows rows)
      (ap (λ es. laid_over es []) (sym (points_found part))
      ∙ sym (kept-over (λ p. sat p.0 && in_range from to p.1) (part ∷ []) [] tt))
      listed

  -- what is selected of a part is laid from the rows
  pub selected_is : (part : Part) → selected sat from to (content_of (part ∷ []))
      ≡ laid_over (points_of (rows_found sat from to part)) []
  selected_is part =
      kept-over (λ p. sat p.0 && in_range from to p.1) (part ∷ []) [] tt
      ∙ ap (λ es. laid_over es []) (points_found part)

  front_some : (l : Labels) (ss : List (ℤ × ℤ)) (c : Content) → ss ≢ []
      → points_in l ss ++ c ≡ [] → ⊥
  front_some l [] c some e = some refl
  front_some l (s ∷ ss) c some e = not_cons ((l, s.0), s.1) (points_in l ss ++ c) e

  -- where a series answers, something is listed
  points_some : (part : Part) → list_any (answers sat from to) part ≡ true
      → points_of (rows_found sat from to part) ≡ [] → ⊥
  points_some [] h e = absurd (true_not_false (sym h))
  points_some (r ∷ rs) h e =
      elim (answers sat from to r) as (λ b. answers sat from to r ≡ b
      → (b || list_any (answers sat from to) rs) ≡ true
      → points_of (map (λ row. row_within from to row.1)
      (cond b (r ∷ filter (answers sat from to) rs) (filter (answers sat from to) rs))) ≡ [] → ⊥) [
        | true ↦
            λ a h e. front_some r.1.0 (filter (λ (s : ℤ × ℤ). in_range from to s.0) r.1.1)
            (points_of (rows_found sat from to rs)) (some_kept r.1.1 (both_true (sat r.1.0) _ a)) e
        | false ↦ λ a h e. points_some rs h e
      ] refl h e

  put_some : (p : Point) (v : ℤ) (c : Content) → put point_cmp p v c ≡ [] → ⊥
  put_some p v [] e = not_cons (p, v) [] e
  put_some p v (x ∷ xs) e =
      elim (point_cmp p x.0)
      as (λ o. by_order o ((p, v) ∷ x ∷ xs) ((x.0, v) ∷ xs) (x ∷ put point_cmp p v xs) ≡ [] → ⊥) [
        | Less ↦ λ f. not_cons (p, v) (x ∷ xs) f
        | Equal ↦ λ f. not_cons (x.0, v) xs f
        | Greater ↦ λ f. not_cons x (put point_cmp p v xs) f
      ] e

  laid_some : (es : Content) → (es ≡ [] → ⊥) → laid_over es [] ≡ [] → ⊥
  laid_some [] some e = some refl
  laid_some (x ∷ xs) some e = put_some x.0 x.1 (laid_over xs []) e

  pub selected_some : (part : Part) → list_any (answers sat from to) part ≡ true
      → selected sat from to (content_of (part ∷ [])) ≡ [] → ⊥
  selected_some part h e =
      laid_some (points_of (rows_found sat from to part)) (points_some part h)
      (sym (selected_is part) ∙ e)

  none_found : (part : Part) → list_any (answers sat from to) part ≡ false
      → rows_found sat from to part ≡ []
  none_found [] h = refl
  none_found (r ∷ rs) h =
      elim (answers sat from to r) as (λ b. (b || list_any (answers sat from to) rs) ≡ false
      → map (λ row. row_within from to row.1)
      (cond b (r ∷ filter (answers sat from to) rs) (filter (answers sat from to) rs)) ≡ []) [
        | true ↦ λ h. absurd (true_not_false h)
        | false ↦ λ h. none_found rs h
      ] h

  pub selected_none : (part : Part) → list_any (answers sat from to) part ≡ false
      → selected sat from to (content_of (part ∷ [])) ≡ []
  selected_none part h =
      selected_is part ∙ ap (λ rows. laid_over (points_of rows) []) (none_found part h)
