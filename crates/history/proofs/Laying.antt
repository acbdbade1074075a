-- Samples put into a content one by one, the last first.
use Rattle.std.proofs.Common.{◌≡◌, ℕ, ℤ, Bool, true, false, cond, T, List, [], ◌∷◌, ◌++◌, refl, sym, ◌∙◌, ap, append-nil, append_assoc}
use Rattle.std.specs.Prelude.{◌&&◌}
use Rattle.std.specs.List.{filter}
use Rattle.std.specs.declared.cmp.Ordering.TheVariants.{Less, Equal, Greater}
use Rattle.std.specs.FinMap.Entries.{put, by_order, is_sorted, is_sorted-where_key}
use Rattle.std.specs.BTreeMap.{insert_entry}
use Rattle.std.specs.Ordering.{match_ordering}
use Rattle.labels.specs.Labels.{Labels, Point, point_cmp}
use Rattle.labels.specs.Contents.{Content, in_range}
use Rattle.labels.specs.Rows.{Row, points_in, points_of}
use Rattle.labels.specs.Parts.{Part, rows_in, within, laid_over, over, content_of, part_kept}
use Rattle.labels.proofs.ContentLaws.{over-last, is_sorted-over}
use Rattle.labels.proofs.Restricting.{kept-++, kept-points_in, kept-points_of, kept-laid_over}
use Rattle.matchers.specs.Satisfies.{satisfies_all}
use Rattle.matchers.specs.Views.{QueryView}
use Rattle.matchers.specs.Queries.{selected_by}
use Rattle.history.specs.Asking.{part_within}

laid_over-++ : (xs ys c : Content) → laid_over (xs ++ ys) c ≡ laid_over xs (laid_over ys c)
laid_over-++ [] ys c = refl
laid_over-++ (x ∷ xs) ys c = ap (put point_cmp x.0 x.1) (laid_over-++ xs ys c)

insert_is_put : (k : Point) (v : ℤ) (es : Content)
    → insert_entry point_cmp es k v ≡ put point_cmp k v es
insert_is_put k v [] = refl
insert_is_put k v (e ∷ es) =
    elim (point_cmp k e.0)
    as (λ o. match_ordering o ((k, v) ∷ e ∷ es) ((e.0, v) ∷ es) (e ∷ insert_entry point_cmp es k v)
    ≡ by_order o ((k, v) ∷ e ∷ es) ((e.0, v) ∷ es) (e ∷ put point_cmp k v es)) [
      | Less ↦ refl
      | Equal ↦ refl
      | Greater ↦ ap (λ c. e ∷ c) (insert_is_put k v es)
    ]

within-push : (from to : ℤ) (ss : List (ℤ × ℤ)) (s : ℤ × ℤ)
    → within from to (ss ++ s ∷ []) ≡ within from to ss ++ cond (in_range from to s.0) (s ∷ []) []
within-push from to [] s = refl
within-push from to (x ∷ xs) s =
    ap (λ ys. cond (in_range from to x.0) (x ∷ ys) ys) (within-push from to xs s)
    ∙ elim (in_range from to x.0)
    as (λ b. cond b (x ∷ (within from to xs ++ cond (in_range from to s.0) (s ∷ []) []))
    (within from to xs ++ cond (in_range from to s.0) (s ∷ []) [])
    ≡ cond b (x ∷ within from to xs) (within from to xs)
    ++ cond (in_range from to s.0) (s ∷ []) []) [ true ↦ refl | false ↦ refl ]

points_in-++ : (l : Labels) (xs ys : List (ℤ × ℤ))
    → points_in l (xs ++ ys) ≡ points_in l xs ++ points_in l ys
points_in-++ l [] ys = refl
points_in-++ l (x ∷ xs) ys = ap (λ c. ((l, x.0), x.1) ∷ c) (points_in-++ l xs ys)

-- the last sample of a row is put first
last_sample : (l : Labels) (from to : ℤ) (ss : List (ℤ × ℤ)) (s : ℤ × ℤ) (c : Content)
    → laid_over (points_in l (within from to (ss ++ s ∷ []))) c ≡ laid_over (points_in l
    (within from to ss)) (cond (in_range from to s.0) (put point_cmp (l, s.0) s.1 c) c)
last_sample l from to ss s c =
    ap (λ xs. laid_over (points_in l xs) c) (within-push from to ss s)
    ∙ ap (λ es. laid_over es c)
    (points_in-++ l (within from to ss) (cond (in_range from to s.0) (s ∷ []) []))
    ∙ laid_over-++ (points_in l (within from to ss))
    (points_in l (cond (in_range from to s.0) (s ∷ []) [])) c
    ∙ ap (laid_over (points_in l (within from to ss)))
    (elim (in_range from to s.0) as (λ b. laid_over (points_in l (cond b (s ∷ []) [])) c
    ≡ cond b (put point_cmp (l, s.0) s.1 c) c) [ true ↦ refl | false ↦ refl ])

pub put_step : (l : Labels) (from to : ℤ) (all rest : List (ℤ × ℤ)) (s : ℤ × ℤ)
    (old new whole : Content) → all ≡ rest ++ s ∷ [] → in_range from to s.0 ≡ true
    → new ≡ insert_entry point_cmp old (l, s.0) s.1
    → laid_over (points_in l (within from to all)) old ≡ whole
    → laid_over (points_in l (within from to rest)) new ≡ whole
put_step l from to all rest s old new whole is inside made inv =
    ap (laid_over (points_in l (within from to rest))) (made
    ∙ insert_is_put (l, s.0) s.1 old
    ∙ sym (ap (λ b. cond b (put point_cmp (l, s.0) s.1 old) old) inside))
    ∙ sym (last_sample l from to rest s old)
    ∙ ap (λ xs. laid_over (points_in l (within from to xs)) old) (sym is) ∙ inv

pub skip_step : (l : Labels) (from to : ℤ) (all rest : List (ℤ × ℤ)) (s : ℤ × ℤ)
    (old whole : Content) → all ≡ rest ++ s ∷ [] → in_range from to s.0 ≡ false
    → laid_over (points_in l (within from to all)) old ≡ whole
    → laid_over (points_in l (within from to rest)) old ≡ whole
skip_step l from to all rest s old whole is outside inv =
    ap (laid_over (points_in l (within from to rest)))
    (sym (ap (λ b. cond b (put point_cmp (l, s.0) s.1 old) old) outside))
    ∙ sym (last_sample l from to rest s old)
    ∙ ap (λ xs. laid_over (points_in l (within from to xs)) old) (sym is) ∙ inv

points_last : (rest : Part) (row : ℕ × Row)
    → points_of (rows_in (rest ++ row ∷ [])) ≡ points_of (rows_in rest) ++ points_in row.1.0 row.1.1
points_last [] row = append-nil (points_in row.1.0 row.1.1)
points_last (r ∷ rs) row =
    ap (λ c. points_in r.1.0 r.1.1 ++ c) (points_last rs row)
    ∙ sym (append_assoc (points_in r.1.0 r.1.1) (points_of (rows_in rs))
    (points_in row.1.0 row.1.1))

none_kept : (ss : List (ℤ × ℤ)) → filter (λ (s : ℤ × ℤ). false) ss ≡ []
none_kept [] = refl
none_kept (s ∷ ss) = none_kept ss

module _ (q : QueryView) where
  passes : Point → Bool
  passes p = satisfies_all q.matchers p.0 && in_range q.from q.to p.1

  -- what is asked of one row
  selected-row : (l : Labels) (ss : List (ℤ × ℤ)) → selected_by q (points_in l ss)
      ≡ cond (satisfies_all q.matchers l) (points_in l (within q.from q.to ss)) []
  selected-row l ss =
      kept-points_in (λ p. satisfies_all q.matchers p.0 && in_range q.from q.to p.1) l ss
      ∙ elim (satisfies_all q.matchers l)
      as (λ b. points_in l (filter (λ (s : ℤ × ℤ). b && in_range q.from q.to s.0) ss)
      ≡ cond b (points_in l (within q.from q.to ss)) []) [
        | true ↦ refl
        | false ↦ ap (points_in l) (none_kept ss)
      ]

  -- the last row of a part is put first
  last_row : (rest : Part) (row : ℕ × Row) (c : Content)
      → laid_over (selected_by q (points_of (rows_in (rest ++ row ∷ [])))) c
      ≡ laid_over (selected_by q (points_of (rows_in rest)))
      (cond (satisfies_all q.matchers row.1.0)
      (laid_over (points_in row.1.0 (within q.from q.to row.1.1)) c) c)
  last_row rest row c =
      ap (λ es. laid_over (selected_by q es) c) (points_last rest row)
      ∙ ap (λ es. laid_over es c) (kept-++ (λ p. satisfies_all q.matchers p.0
      && in_range q.from q.to p.1) (points_of (rows_in rest)) (points_in row.1.0 row.1.1))
      ∙ laid_over-++ (selected_by q (points_of (rows_in rest)))
      (selected_by q (points_in row.1.0 row.1.1)) c
      ∙ ap (λ es. laid_over (selected_by q (points_of (rows_in rest))) (laid_over es c))
      (selected-row row.1.0 row.1.1)
      ∙ ap (laid_over (selected_by q (points_of (rows_in rest))))
      (elim (satisfies_all q.matchers row.1.0)
      as (λ b. laid_over (cond b (points_in row.1.0 (within q.from q.to row.1.1)) []) c
      ≡ cond b (laid_over (points_in row.1.0 (within q.from q.to row.1.1)) c) c) [
        | true ↦ refl
        | false ↦ refl
      ])

  pub row_step : (all rest : Part) (row : ℕ × Row) (old new whole : Content)
      → all ≡ rest ++ row ∷ [] → satisfies_all q.matchers row.1.0 ≡ true
      → new ≡ laid_over (points_in row.1.0 (within q.from q.to row.1.1)) old
      → laid_over (selected_by q (points_of (rows_in all))) old ≡ whole
      → laid_over (selected_by q (points_of (rows_in rest))) new ≡ whole
  row_step all rest row old new whole is passed made inv =
      ap (laid_over (selected_by q (points_of (rows_in rest)))) (made
      ∙ sym (ap (λ b. cond b (laid_over (points_in row.1.0 (within q.from q.to row.1.1)) old) old)
      passed))
      ∙ sym (last_row rest row old)
      ∙ ap (λ part. laid_over (selected_by q (points_of (rows_in part))) old) (sym is) ∙ inv

  pub no_row_step : (all rest : Part) (row : ℕ × Row) (old whole : Content) → all ≡ rest ++ row ∷ []
      → satisfies_all q.matchers row.1.0 ≡ false
      → laid_over (selected_by q (points_of (rows_in all))) old ≡ whole
      → laid_over (selected_by q (points_of (rows_in rest))) old ≡ whole
  no_row_step all rest row old whole is failed inv =
      ap (laid_over (selected_by q (points_of (rows_in rest)))) (sym (ap
      (λ b. cond b (laid_over (points_in row.1.0 (within q.from q.to row.1.1)) old) old) failed))
      ∙ sym (last_row rest row old)
      ∙ ap (λ part. laid_over (selected_by q (points_of (rows_in part))) old) (sym is) ∙ inv

  -- one part more
  pub selected-part : (parts : List Part) (part : Part)
      → selected_by q (content_of (parts ++ part ∷ []))
      ≡ laid_over (selected_by q (points_of (rows_in part))) (selected_by q (content_of parts))
  selected-part parts part =
      ap (selected_by q) (over-last parts [] part)
      ∙ kept-laid_over (λ p. satisfies_all q.matchers p.0 && in_range q.from q.to p.1)
      (points_of (rows_in part)) (over [] parts) (is_sorted-over parts [] tt)

  -- what is asked of parts is in order
  pub is_sorted-selected : (parts : List Part)
      → T (is_sorted point_cmp (selected_by q (content_of parts)))
  is_sorted-selected parts =
      is_sorted-where_key point_cmp (λ p. satisfies_all q.matchers p.0 && in_range q.from q.to p.1)
      (content_of parts) (is_sorted-over parts [] tt)

  both_false : (b : Bool) → (b && false) ≡ false
  both_false true = refl
  both_false false = refl

  -- samples out of the range are asked of no one
  asked_twice : (b : Bool) (ss : List (ℤ × ℤ))
      → filter (λ (s : ℤ × ℤ). b && in_range q.from q.to s.0) (within q.from q.to ss)
      ≡ filter (λ (s : ℤ × ℤ). b && in_range q.from q.to s.0) ss
  asked_twice b [] = refl
  asked_twice b (s ∷ ss) =
      let rest = asked_twice b ss in
      elim (in_range q.from q.to s.0) as (λ i. in_range q.from q.to s.0 ≡ i
      → filter (λ (s : ℤ × ℤ). b && in_range q.from q.to s.0) (cond i (s ∷ within q.from q.to ss)
      (within q.from q.to ss)) ≡ filter (λ (s : ℤ × ℤ). b && in_range q.from q.to s.0) (s ∷ ss)) [
        | true ↦ λ e. ap (λ xs. cond (b && in_range q.from q.to s.0) (s ∷ xs) xs) rest
        | false ↦
            λ e. rest
            ∙ sym (ap (λ i. cond (b && i) (s ∷ filter (λ (s : ℤ × ℤ). b && in_range q.from q.to s.0)
            ss) (filter (λ (s : ℤ × ℤ). b && in_range q.from q.to s.0) ss)) e
            ∙ ap (λ i. cond i (s ∷ filter (λ (s : ℤ × ℤ). b && in_range q.from q.to s.0) ss)
            (filter (λ (s : ℤ × ℤ). b && in_range q.from q.to s.0) ss)) (both_false b))
      ] refl

  kept_within : (part : Part)
      → part_kept (λ p. satisfies_all q.matchers p.0 && in_range q.from q.to p.1) (part_within q
      part) ≡ part_kept (λ p. satisfies_all q.matchers p.0 && in_range q.from q.to p.1) part
  kept_within [] = refl
  kept_within (row ∷ rows) = λ i. (
    row.0,
    (row.1.0, asked_twice (satisfies_all q.matchers row.1.0) row.1.1 i),
  ) ∷ kept_within rows i

  pub selected_within : (part : Part)
      → selected_by q (points_of (rows_in (part_within q part)))
      ≡ selected_by q (points_of (rows_in part))
  selected_within part =
      kept-points_of (λ p. satisfies_all q.matchers p.0 && in_range q.from q.to p.1)
      (part_within q part)
      ∙ ap (λ x. points_of (rows_in x)) (kept_within part)
      ∙ sym (kept-points_of (λ p. satisfies_all q.matchers p.0 && in_range q.from q.to p.1) part)
