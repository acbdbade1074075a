-- Rows with one sample more are those of the content with it.
use Rattle.std.specs.Prelude.{◌≡◌, ◌≢◌, ℤ, Bool, true, false, ◌&&◌, T, List, [], ◌∷◌, ◌++◌, refl}
use Rattle.std.specs.declared.cmp.Ordering.{Ordering}
use Rattle.std.specs.declared.cmp.Ordering.TheVariants.{Less, Equal, Greater}
use Rattle.std.specs.Ordering.{int_cmp, ordering_then, is_lt}
use Rattle.std.specs.FinMap.Entries.{put, by_order, is_sorted, below_all, is_sorted-put}
use Rattle.std.proofs.Common.{sym, ◌∙◌, ap, subst}
use Rattle.labels.specs.Labels.{Labels, labels_cmp, point_cmp}
use Rattle.labels.specs.Contents.{Content}
use Rattle.labels.specs.Rows.{Row, points_in, points_of, AreFull, AreRows}
use Rattle.labels.specs.Putting.{row_put}
use Rattle.labels.specs.Laws.{labels_total}
use Rattle.labels.proofs.OrderLaws.{labels_exact}
use Rattle.labels.proofs.Times.{first_T, second_T}

-- a point of a smaller label set goes before the rows
put_before : (l : Labels) (s : ℤ × ℤ) (m : Labels) (ss : List (ℤ × ℤ)) (c : Content) → ss ≢ [] → labels_cmp l m ≡ Less → put point_cmp (l, s.0) s.1 (points_in m ss ++ c) ≡ ((l, s.0), s.1) ∷ (points_in m ss ++ c)
put_before l s m [] c full less = absurd (full refl)
put_before l s m (t ∷ ts) c full less = ap (λ r. by_order (ordering_then r (int_cmp s.0 t.0)) (((l, s.0), s.1) ∷ ((m, t.0), t.1) ∷ (points_in m ts ++ c)) (((m, t.0), s.1) ∷ (points_in m ts ++ c)) (((m, t.0), t.1) ∷ put point_cmp (l, s.0) s.1 (points_in m ts ++ c))) less

-- a point of a greater label set goes after them
put_after : (l : Labels) (s : ℤ × ℤ) (m : Labels) (ss : List (ℤ × ℤ)) (c : Content) → labels_cmp l m ≡ Greater → put point_cmp (l, s.0) s.1 (points_in m ss ++ c) ≡ points_in m ss ++ put point_cmp (l, s.0) s.1 c
put_after l s m [] c more = refl
put_after l s m (t ∷ ts) c more =
    ap (λ r. by_order (ordering_then r (int_cmp s.0 t.0)) (((l, s.0), s.1) ∷ ((m, t.0), t.1) ∷ (points_in m ts ++ c)) (((m, t.0), s.1) ∷ (points_in m ts ++ c)) (((m, t.0), t.1) ∷ put point_cmp (l, s.0) s.1 (points_in m ts ++ c))) more
    ∙ ap (λ d. ((m, t.0), t.1) ∷ d) (put_after l s m ts c more)

-- what a label set's samples stand before
abbrev Precedes : Labels → ℤ × ℤ → Content → Type 0
Precedes l s c = put point_cmp (l, s.0) s.1 c ≡ ((l, s.0), s.1) ∷ c

-- a point of the same label set goes among them
put_among : (l : Labels) (s : ℤ × ℤ) (m : Labels) (ss : List (ℤ × ℤ)) (c : Content) → labels_cmp l m ≡ Equal → l ≡ m → Precedes l s c → put point_cmp (l, s.0) s.1 (points_in m ss ++ c) ≡ points_in m (put int_cmp s.0 s.1 ss) ++ c
put_among l s m [] c same is before = before ∙ ap (λ (k : Labels). ((k, s.0), s.1) ∷ c) is
put_among l s m (t ∷ ts) c same is before =
    ap (λ r. by_order (ordering_then r (int_cmp s.0 t.0)) (((l, s.0), s.1) ∷ ((m, t.0), t.1) ∷ (points_in m ts ++ c)) (((m, t.0), s.1) ∷ (points_in m ts ++ c)) (((m, t.0), t.1) ∷ put point_cmp (l, s.0) s.1 (points_in m ts ++ c))) same
    ∙ elim (int_cmp s.0 t.0) as (λ r. by_order r (((l, s.0), s.1) ∷ ((m, t.0), t.1) ∷ (points_in m ts ++ c)) (((m, t.0), s.1) ∷ (points_in m ts ++ c)) (((m, t.0), t.1) ∷ put point_cmp (l, s.0) s.1 (points_in m ts ++ c))
    ≡ points_in m (by_order r ((s.0, s.1) ∷ t ∷ ts) ((t.0, s.1) ∷ ts) (t ∷ put int_cmp s.0 s.1 ts)) ++ c) [
      | Less ↦ ap (λ (k : Labels). ((k, s.0), s.1) ∷ ((m, t.0), t.1) ∷ (points_in m ts ++ c)) is
      | Equal ↦ refl
      | Greater ↦ ap (λ d. ((m, t.0), t.1) ∷ d) (put_among l s m ts c same is before)
    ]

less_of_T : (r : Ordering) → T (is_lt r) → r ≡ Less
less_of_T Less p = refl
less_of_T Equal p = absurd p
less_of_T Greater p = absurd p

precedes : (l : Labels) (s : ℤ × ℤ) (rs : List Row) → T (below_all labels_cmp l rs) → AreFull rs → Precedes l s (points_of rs)
precedes l s [] below full = refl
precedes l s (r ∷ rs) below full = put_before l s r.0 r.1 (points_of rs) full.0 (less_of_T (labels_cmp l r.0) (first_T _ _ below))

pub points_of-row_put : (l : Labels) (s : ℤ × ℤ) (rows : List Row) → T (is_sorted labels_cmp rows) → AreFull rows → points_of (row_put l s rows) ≡ put point_cmp (l, s.0) s.1 (points_of rows)
points_of-row_put l s [] ascending full = refl
points_of-row_put l s (r ∷ rs) ascending full =
    elim (labels_cmp l r.0) as (λ o. labels_cmp l r.0 ≡ o → points_of (by_order o ((l, s ∷ []) ∷ r ∷ rs) ((r.0, put int_cmp s.0 s.1 r.1) ∷ rs) (r ∷ row_put l s rs)) ≡ put point_cmp (l, s.0) s.1 (points_in r.0 r.1 ++ points_of rs)) [
      | Less ↦ λ e. sym (put_before l s r.0 r.1 (points_of rs) full.0 e)
      | Equal ↦ λ e. let is = labels_exact l r.0 e in
          sym (put_among l s r.0 r.1 (points_of rs) e is (precedes l s rs (subst (λ (k : Labels). T (below_all labels_cmp k rs)) (sym is) (first_T _ _ ascending)) full.1))
      | Greater ↦ λ e. ap (λ c. points_in r.0 r.1 ++ c) (points_of-row_put l s rs (second_T _ _ ascending) full.1) ∙ sym (put_after l s r.0 r.1 (points_of rs) e)
    ] refl

below_same : (x l : Labels) (s : ℤ × ℤ) (rs : List Row) → below_all labels_cmp x (row_put l s rs) ≡ below_all labels_cmp x (put labels_cmp l [] rs)
below_same x l s [] = refl
below_same x l s (r ∷ rs) = elim (labels_cmp l r.0) as (λ o. below_all labels_cmp x (by_order o ((l, s ∷ []) ∷ r ∷ rs) ((r.0, put int_cmp s.0 s.1 r.1) ∷ rs) (r ∷ row_put l s rs)) ≡ below_all labels_cmp x (by_order o ((l, []) ∷ r ∷ rs) ((r.0, []) ∷ rs) (r ∷ put labels_cmp l [] rs))) [
  | Less ↦ refl
  | Equal ↦ refl
  | Greater ↦ ap (λ b. is_lt (labels_cmp x r.0) && b) (below_same x l s rs)
]

sorted_same : (l : Labels) (s : ℤ × ℤ) (rs : List Row) → is_sorted labels_cmp (row_put l s rs) ≡ is_sorted labels_cmp (put labels_cmp l [] rs)
sorted_same l s [] = refl
sorted_same l s (r ∷ rs) = elim (labels_cmp l r.0) as (λ o. is_sorted labels_cmp (by_order o ((l, s ∷ []) ∷ r ∷ rs) ((r.0, put int_cmp s.0 s.1 r.1) ∷ rs) (r ∷ row_put l s rs)) ≡ is_sorted labels_cmp (by_order o ((l, []) ∷ r ∷ rs) ((r.0, []) ∷ rs) (r ∷ put labels_cmp l [] rs))) [
  | Less ↦ refl
  | Equal ↦ refl
  | Greater ↦ λ i. below_same r.0 l s rs i && sorted_same l s rs i
]

cons_full : (s : ℤ × ℤ) (ss : List (ℤ × ℤ)) → (s ∷ ss) ≢ []
cons_full s ss e = subst T (ap (λ (xs : List (ℤ × ℤ)). elim xs as (λ _. Bool) [ [] ↦ false | y ∷ ys ↦ true ]) e) tt

put_full : (t v : ℤ) (ss : List (ℤ × ℤ)) → put int_cmp t v ss ≢ []
put_full t v [] = cons_full (t, v) []
put_full t v (s ∷ ss) = elim (int_cmp t s.0) as (λ o. by_order o ((t, v) ∷ s ∷ ss) ((s.0, v) ∷ ss) (s ∷ put int_cmp t v ss) ≢ []) [ Less ↦ cons_full (t, v) (s ∷ ss) | Equal ↦ cons_full (s.0, v) ss | Greater ↦ cons_full s (put int_cmp t v ss) ]

full_same : (l : Labels) (s : ℤ × ℤ) (rs : List Row) → AreFull rs → AreFull (row_put l s rs)
full_same l s [] full = (cons_full s [], tt)
full_same l s (r ∷ rs) full = elim (labels_cmp l r.0) as (λ o. AreFull (by_order o ((l, s ∷ []) ∷ r ∷ rs) ((r.0, put int_cmp s.0 s.1 r.1) ∷ rs) (r ∷ row_put l s rs))) [
  | Less ↦ (cons_full s [], full)
  | Equal ↦ (put_full s.0 s.1 r.1, full.1)
  | Greater ↦ (full.0, full_same l s rs full.1)
]

-- rows of a content with one sample more
pub AreRows-row_put : (l : Labels) (s : ℤ × ℤ) (rows : List Row) (c : Content) → AreRows rows c → AreRows (row_put l s rows) (put point_cmp (l, s.0) s.1 c)
AreRows-row_put l s rows c is = record {
  points = points_of-row_put l s rows is.ascending is.full ∙ ap (put point_cmp (l, s.0) s.1) is.points;
  ascending = subst T (sym (sorted_same l s rows)) (is_sorted-put labels_cmp labels_total l [] rows is.ascending);
  full = full_same l s rows is.full;
}
