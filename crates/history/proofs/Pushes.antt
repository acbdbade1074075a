-- Rows with one sample more at their end are the rows of the content with it.
use Rattle.std.proofs.Common.{◌≡◌, ℤ, true, false, cond, T, List, [], ◌∷◌, ◌++◌, refl, sym, ◌∙◌, ap, subst, inl, inr, append-nil, append_assoc}
use Rattle.std.specs.Prelude.{◌≢◌, ◌⊎◌}
use Rattle.std.specs.declared.cmp.Ordering.{Ordering}
use Rattle.std.specs.declared.cmp.Ordering.TheVariants.{Less, Equal, Greater}
use Rattle.std.specs.Ordering.{int_cmp, ordering_then, is_lt, is_gt, is_eq}
use Rattle.std.specs.Cmp.{Equal-is}
use Rattle.std.specs.FinMap.Entries.{is_sorted, below_all}
use Rattle.labels.specs.Labels.{Labels, Point, labels_cmp, point_cmp, same_labels}
use Rattle.labels.specs.Contents.{Content}
use Rattle.labels.specs.Rows.{Row, points_in, points_of, IsFull, AreFull, AreRows}
use Rattle.labels.specs.Laws.{labels_total}
use Rattle.labels.proofs.OrderLaws.{labels_exact}
use Rattle.labels.proofs.Times.{both_T, first_T, second_T, T_of, true_not_false}
use Rattle.labels.proofs.SortedRows.{not_cons}
use Rattle.history.specs.Pushing.{pushed}

less_is : (o : Ordering) → T (is_lt o) → o ≡ Less
less_is Less h = refl
less_is Equal h = absurd h
less_is Greater h = absurd h

below-front : (p : Point) (xs ys : Content) → T (below_all point_cmp p (xs ++ ys))
    → T (below_all point_cmp p xs)
below-front p [] ys h = tt
below-front p (x ∷ xs) ys h = both_T _ _ (first_T _ _ h) (below-front p xs ys (second_T _ _ h))

pub sorted-front : (xs ys : Content) → T (is_sorted point_cmp (xs ++ ys))
    → T (is_sorted point_cmp xs)
sorted-front [] ys h = tt
sorted-front (x ∷ xs) ys h =
    both_T _ _ (below-front x.0 xs ys (first_T _ _ h)) (sorted-front xs ys (second_T _ _ h))

sorted-back : (xs ys : Content) → T (is_sorted point_cmp (xs ++ ys)) → T (is_sorted point_cmp ys)
sorted-back [] ys h = h
sorted-back (x ∷ xs) ys h = sorted-back xs ys (second_T _ _ h)

-- what ends a list is above what stands before it
last_above : (p : Point) (c : Content) (e : Point × ℤ) → T (below_all point_cmp p (c ++ e ∷ []))
    → point_cmp p e.0 ≡ Less
last_above p [] e h = less_is _ (first_T _ _ h)
last_above p (x ∷ xs) e h = last_above p xs e (second_T _ _ h)

not_after : (o r : Ordering) → ordering_then o r ≡ Less → (o ≡ Less) ⊎ (o ≡ Equal)
not_after Less r e = inl refl
not_after Equal r e = inr refl
not_after Greater r e = absurd (subst T (ap is_gt e) tt)

points_in-push : (l : Labels) (ss : List (ℤ × ℤ)) (s : ℤ × ℤ)
    → points_in l (ss ++ s ∷ []) ≡ points_in l ss ++ ((l, s.0), s.1) ∷ []
points_in-push l [] s = refl
points_in-push l (x ∷ xs) s = ap (λ c. ((l, x.0), x.1) ∷ c) (points_in-push l xs s)

push_full : (ss : List (ℤ × ℤ)) (s : ℤ × ℤ) → (ss ++ s ∷ []) ≢ []
push_full [] s = not_cons s []
push_full (x ∷ xs) s = not_cons x (xs ++ s ∷ [])

module _ (l : Labels) (s : ℤ × ℤ) where
  last : Point × ℤ
  last = ((l, s.0), s.1)

  -- the label set of a row is not after that of a sample which is after all that stands
  row_upto : (r : Row) (c : Content) → IsFull r
      → T (is_sorted point_cmp ((points_in r.0 r.1 ++ c) ++ ((l, s.0), s.1) ∷ []))
      → (labels_cmp r.0 l ≡ Less) ⊎ (labels_cmp r.0 l ≡ Equal)
  row_upto r c full h =
      elim r.1 as (λ ss. ss ≢ [] → T (is_sorted point_cmp ((points_in r.0 ss ++ c) ++ (
        (l, s.0),
        s.1,
      ) ∷ [])) → (labels_cmp r.0 l ≡ Less) ⊎ (labels_cmp r.0 l ≡ Equal)) [
        | [] ↦ λ f k. absurd (f refl)
        | t ∷ ts ↦
            λ f k. not_after (labels_cmp r.0 l) (int_cmp t.0 s.0)
            (last_above (r.0, t.0) (points_in r.0 ts ++ c) ((l, s.0), s.1) (first_T _ _ k))
      ] full h

  points_of-pushed : (rows : List Row)
      → points_of (pushed l s rows) ≡ points_of rows ++ ((l, s.0), s.1) ∷ []
  points_of-pushed [] = refl
  points_of-pushed (r ∷ []) =
      elim (same_labels r.0 l) as (λ b. same_labels r.0 l ≡ b → points_of (cond b ((
        l,
        r.1 ++ s ∷ [],
      ) ∷ []) (r ∷ (l, s ∷ []) ∷ [])) ≡ (points_in r.0 r.1 ++ []) ++ ((l, s.0), s.1) ∷ []) [
        | true ↦ λ e. append-nil (points_in l (r.1 ++ s ∷ [])) ∙ points_in-push l r.1 s
            ∙ ap (λ (k : Labels). points_in k r.1 ++ ((l, s.0), s.1) ∷ [])
            (sym (labels_exact r.0 l ((Equal-is (labels_cmp r.0 l)).0 e)))
            ∙ ap (λ c. c ++ ((l, s.0), s.1) ∷ []) (sym (append-nil (points_in r.0 r.1)))
        | false ↦ λ e. ap (λ c. c ++ ((l, s.0), s.1) ∷ []) (sym (append-nil (points_in r.0 r.1)))
      ] refl
  points_of-pushed (r ∷ m ∷ rs) =
      ap (λ c. points_in r.0 r.1 ++ c) (points_of-pushed (m ∷ rs))
      ∙ sym (append_assoc (points_in r.0 r.1) (points_of (m ∷ rs)) (((l, s.0), s.1) ∷ []))

  AreFull-pushed : (rows : List Row) → AreFull rows → AreFull (pushed l s rows)
  AreFull-pushed [] full = (not_cons s [], tt)
  AreFull-pushed (r ∷ []) full =
      elim (same_labels r.0 l)
      as (λ b. AreFull (cond b ((l, r.1 ++ s ∷ []) ∷ []) (r ∷ (l, s ∷ []) ∷ []))) [
        | true ↦ (push_full r.1 s, tt)
        | false ↦ (full.0, (not_cons s [], tt))
      ]
  AreFull-pushed (r ∷ m ∷ rs) full = (full.0, AreFull-pushed (m ∷ rs) full.1)

  below-pushed : (x : Labels) (rows : List Row) → labels_cmp x l ≡ Less
      → T (below_all labels_cmp x rows) → T (below_all labels_cmp x (pushed l s rows))
  below-pushed x [] less below = both_T _ _ (T_of _ (ap is_lt less)) tt
  below-pushed x (r ∷ []) less below =
      elim (same_labels r.0 l) as (λ b. T (below_all labels_cmp x (cond b ((
        l,
        r.1 ++ s ∷ [],
      ) ∷ []) (r ∷ (l, s ∷ []) ∷ [])))) [
        | true ↦ both_T _ _ (T_of _ (ap is_lt less)) tt
        | false ↦ both_T _ _ (first_T _ _ below) (both_T _ _ (T_of _ (ap is_lt less)) tt)
      ]
  below-pushed x (r ∷ m ∷ rs) less below =
      both_T _ _ (first_T _ _ below) (below-pushed x (m ∷ rs) less (second_T _ _ below))

  -- a label set below one that is not after the sample's is below the sample's
  below_last : (a b : Labels) → labels_cmp a b ≡ Less
      → (labels_cmp b l ≡ Less) ⊎ (labels_cmp b l ≡ Equal) → labels_cmp a l ≡ Less
  below_last a b less (inl e) = labels_total.trans a b l less e
  below_last a b less (inr e) =
      subst (λ (k : Labels). labels_cmp a k ≡ Less) (labels_exact b l e) less

  apart : (r : Row) → same_labels r.0 l ≡ false
      → (labels_cmp r.0 l ≡ Less) ⊎ (labels_cmp r.0 l ≡ Equal) → labels_cmp r.0 l ≡ Less
  apart r other (inl e) = e
  apart r other (inr e) = absurd (true_not_false (sym (ap is_eq e) ∙ other))

  rises-pushed : (rows : List Row) → AreFull rows → T (is_sorted labels_cmp rows)
      → T (is_sorted point_cmp (points_of rows ++ ((l, s.0), s.1) ∷ []))
      → T (is_sorted labels_cmp (pushed l s rows))
  rises-pushed [] full rising h = tt
  rises-pushed (r ∷ []) full rising h =
      elim (same_labels r.0 l) as (λ b. same_labels r.0 l ≡ b
      → T (is_sorted labels_cmp (cond b ((l, r.1 ++ s ∷ []) ∷ []) (r ∷ (l, s ∷ []) ∷ [])))) [
        | true ↦ λ e. tt
        | false ↦
            λ e.
            both_T _ _ (both_T _ _ (T_of _ (ap is_lt (apart r e (row_upto r [] full.0 h)))) tt) tt
      ] refl
  rises-pushed (r ∷ m ∷ rs) full rising h =
      let back : T (is_sorted point_cmp (points_of (m ∷ rs) ++ ((l, s.0), s.1) ∷ []))
      = sorted-back (points_in r.0 r.1) (points_of (m ∷ rs) ++ ((l, s.0), s.1) ∷ [])
      (subst (λ (c : Content). T (is_sorted point_cmp c))
      (append_assoc (points_in r.0 r.1) (points_of (m ∷ rs)) (((l, s.0), s.1) ∷ [])) h) in
      both_T _ _
      (below-pushed r.0 (m ∷ rs) (below_last r.0 m.0 (less_is _ (first_T _ _ (first_T _ _ rising)))
      (row_upto m (points_of rs) full.1.0 back)) (first_T _ _ rising))
      (rises-pushed (m ∷ rs) full.1 (second_T _ _ rising) back)

  AreRows-pushed : (rows : List Row) (c : Content) → AreRows rows c
      → T (is_sorted point_cmp (c ++ ((l, s.0), s.1) ∷ []))
      → AreRows (pushed l s rows) (c ++ ((l, s.0), s.1) ∷ [])
  AreRows-pushed rows c is h = record {
    points = points_of-pushed rows ∙ ap (λ d. d ++ ((l, s.0), s.1) ∷ []) is.points;
    ascending =
        rises-pushed rows is.full is.ascending (subst
        (λ (d : Content). T (is_sorted point_cmp (d ++ ((l, s.0), s.1) ∷ []))) (sym is.points) h);
    full = AreFull-pushed rows is.full;
  }

pushed_last : (l : Labels) (s : ℤ × ℤ) (front : List Row) (r : Row) → pushed l s (front ++ r ∷ [])
    ≡ front ++ cond (same_labels r.0 l) ((l, r.1 ++ s ∷ []) ∷ []) (r ∷ (l, s ∷ []) ∷ [])
pushed_last l s [] r = refl
pushed_last l s (x ∷ []) r = refl
pushed_last l s (x ∷ y ∷ ys) r = ap (λ (rows : List Row). x ∷ rows) (pushed_last l s (y ∷ ys) r)

-- a row is taken off, and put back with a sample more where it has the label set
pub push_same : (l : Labels) (s : ℤ × ℤ) (old front rows new : List Row) (r row : Row)
    (ss more : List (ℤ × ℤ)) → old ≡ front ++ r ∷ [] → same_labels r.0 l ≡ true
    → rows ≡ front → ss ≡ r.1 → more ≡ ss ++ s ∷ [] → row ≡ (l, more) → new ≡ rows ++ row ∷ []
    → new ≡ pushed l s old
push_same l s old front rows new r row ss more is same rows_is ss_is more_is row_is new_is =
    new_is
    ∙ (λ i. rows_is i ++ (row_is
    ∙ ap (λ (xs : List (ℤ × ℤ)). (l, xs)) (more_is
    ∙ ap (λ (xs : List (ℤ × ℤ)). xs ++ s ∷ []) ss_is)) i ∷ [])
    ∙ sym (ap (pushed l s) is
    ∙ pushed_last l s front r
    ∙ ap (λ b. front ++ cond b ((l, r.1 ++ s ∷ []) ∷ []) (r ∷ (l, s ∷ []) ∷ [])) same)

-- or put back as it was, and the sample makes a row
pub push_other : (l : Labels) (s : ℤ × ℤ) (old front rows new : List Row) (r row : Row)
    (ss more : List (ℤ × ℤ)) → old ≡ front ++ r ∷ [] → same_labels r.0 l ≡ false
    → rows ≡ front ++ r ∷ [] → ss ≡ [] → more ≡ ss ++ s ∷ [] → row ≡ (l, more)
    → new ≡ rows ++ row ∷ [] → new ≡ pushed l s old
push_other l s old front rows new r row ss more is other rows_is ss_is more_is row_is new_is =
    new_is
    ∙ (λ i. rows_is i ++ (row_is
    ∙ ap (λ (xs : List (ℤ × ℤ)). (l, xs)) (more_is
    ∙ ap (λ (xs : List (ℤ × ℤ)). xs ++ s ∷ []) ss_is)) i ∷ [])
    ∙ append_assoc front (r ∷ []) ((l, s ∷ []) ∷ [])
    ∙ sym (ap (pushed l s) is
    ∙ pushed_last l s front r
    ∙ ap (λ b. front ++ cond b ((l, r.1 ++ s ∷ []) ∷ []) (r ∷ (l, s ∷ []) ∷ [])) other)

-- the rows so far, and what is left of a content that is in order
pub record AreRowsBefore (rows : List Row) (left whole : Content) : Type 0 where
  pub grouped : AreRows rows (points_of rows)
  pub same : points_of rows ++ left ≡ whole

pub pushed_step : (rows : List Row) (left rest whole : Content) (p : Point) (v : ℤ)
    → T (is_sorted point_cmp whole) → left ≡ (p, v) ∷ rest
    → AreRowsBefore rows left whole → AreRowsBefore (pushed p.0 (p.1, v) rows) rest whole
pushed_step rows left rest whole p v rising is before =
    let first : (points_of rows ++ (p, v) ∷ []) ++ rest ≡ whole
    = append_assoc (points_of rows) ((p, v) ∷ []) rest
    ∙ ap (λ c. points_of rows ++ c) (sym is)
    ∙ before.same in
    let made = AreRows-pushed p.0 (p.1, v) rows (points_of rows) before.grouped
    (sorted-front (points_of rows ++ (p, v) ∷ []) rest
    (subst (λ (c : Content). T (is_sorted point_cmp c)) (sym first) rising)) in
    record {
      grouped = record { points = refl; ascending = made.ascending; full = made.full };
      same = ap (λ c. c ++ rest) made.points ∙ first;
    }

-- where nothing is left, the rows are those of the whole
pub rows_of_whole : (rows : List Row) (left whole : Content) → left ≡ []
    → AreRowsBefore rows left whole → AreRows rows whole
rows_of_whole rows left whole none before = record {
  points =
      sym (append-nil (points_of rows)) ∙ ap (λ c. points_of rows ++ c) (sym none) ∙ before.same;
  ascending = before.grouped.ascending;
  full = before.grouped.full;
}
