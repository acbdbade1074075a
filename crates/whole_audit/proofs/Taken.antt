-- Intervals take series in turn exactly where each series is taken by the first that may take it.
use Rattle.std.proofs.Common.{◌≡◌, ℕ, zero, suc, ◌<◌, Bool, true, false, cond, not, ◌&&◌, ◌⊎◌, inl, inr, List, [], ◌∷◌, ◌++◌, Option, None, Some, length, drop, get_or, ◌+◌, refl, sym, ◌∙◌, ap, subst, arith}
use Rattle.std.proofs.lemmas.Bool.Decides.{nat_tests}
use Rattle.labels.specs.Labels.{Labels}
use Rattle.labels.specs.Parts.{Part, has_sample}
use Rattle.labels.proofs.Times.{true_not_false}
use Rattle.matchers.specs.Satisfies.{satisfies, satisfies_all}
use Rattle.matchers.specs.Views.{MatcherView, QueryView}
use Rattle.cover.specs.declared.certificate.Interval.{Interval}
use Rattle.cover.specs.declared.certificate.Verdict.{Verdict}
use Rattle.cover.specs.declared.certificate.Verdict.TheVariants.{Match, NoSample, Rejected}
use Rattle.cover.specs.Asking.{satisfies_at}
use Rattle.cover.specs.Certificates.{is_match}
use Rattle.reply_reader.proofs.Booleans.{and_left, and_right, and_both, not_true, true_not, either}
use Rattle.reply_reader.proofs.Neighbours.{from_read}
use Rattle.auditor.specs.Auditing.{names_known, all_known}
use Rattle.auditor.specs.Looking.{answers, fits}
use Rattle.whole_audit.specs.Explaining.{is_sampled, sampled, TakeInTurn}
use Rattle.whole_audit.specs.Taking.{fits_alone, after_taking, have_no_match, are_taken_from}
use Rattle.whole_audit.proofs.Added.{Entry}

-- the first interval takes some, and the others the rest
abbrev Takes : QueryView → Verdict → (Part → Type 0) → Part → Type 0
Takes query v others rows =
    (taken : Part) × (rest : Part) × (rows ≡ taken ++ rest) × (fits query v taken ≡ true)
    × others rest

module _ (query : QueryView) where
  take_one : (v : Verdict) (others : Part → Type 0) (row : Entry) (rows : Part)
      → is_match v ≡ true → fits_alone query v row ≡ true → others rows
      → Takes query v others (row ∷ rows)
  take_one Match others row rows m f h = (row ∷ [], rows, refl, f, h)
  take_one NoSample others row rows m f h = absurd (true_not_false (sym m))
  take_one (Rejected j) others row rows m f h = absurd (true_not_false (sym m))

  fits_more : (v : Verdict) (row : Entry) (rows : Part) → is_match v ≡ false
      → fits query v (row ∷ rows) ≡ (fits_alone query v row && fits query v rows)
  fits_more Match row rows m = absurd (true_not_false m)
  fits_more NoSample row rows m = refl
  fits_more (Rejected j) row rows m = refl

  fits_nothing : (v : Verdict) → is_match v ≡ false → fits query v [] ≡ true
  fits_nothing Match m = absurd (true_not_false m)
  fits_nothing NoSample m = refl
  fits_nothing (Rejected j) m = refl

  take_more : (v : Verdict) (others : Part → Type 0) (row : Entry) (rows : Part)
      → is_match v ≡ false → fits_alone query v row ≡ true → Takes query v others rows
      → Takes query v others (row ∷ rows)
  take_more v others row rows m f h = (
    row ∷ h.0,
    h.1,
    ap (λ (xs : Part). row ∷ xs) h.2,
    fits_more v row h.0 m ∙ and_both (fits_alone query v row) (fits query v h.0) f h.3,
    h.4,
  )

  take_none : (v : Verdict) (others : Part → Type 0) (rows : Part) → is_match v ≡ false
      → others rows → Takes query v others rows
  take_none v others rows m h = ([], rows, refl, fits_nothing v m, h)

  -- what a match takes
  one_taken : (v : Verdict) (taken : Part) → is_match v ≡ true → fits query v taken ≡ true
      → (x : Entry) × ((taken ≡ x ∷ []) × (fits_alone query v x ≡ true))
  one_taken Match [] m f = absurd (true_not_false (sym f))
  one_taken Match (x ∷ []) m f = (x, (refl, f))
  one_taken Match (x ∷ y ∷ ys) m f = absurd (true_not_false (sym f))
  one_taken NoSample taken m f = absurd (true_not_false (sym m))
  one_taken (Rejected j) taken m f = absurd (true_not_false (sym m))

  match_fits : (v : Verdict) (row : Entry) → is_match v ≡ true
      → fits_alone query v row ≡ answers query row
  match_fits Match row m = refl
  match_fits NoSample row m = absurd (true_not_false (sym m))
  match_fits (Rejected j) row m = absurd (true_not_false (sym m))

  satisfied_each : (ms : List MatcherView) (labels : Labels) (j : ℕ)
      → satisfies_all ms labels ≡ true → j < length ms → satisfies_at ms j labels ≡ true
  satisfied_each [] labels j h l = absurd (omega (arith, l))
  satisfied_each (m ∷ ms) labels zero h l =
      and_left (satisfies m labels) (satisfies_all ms labels) h
  satisfied_each (m ∷ ms) labels (suc j) h l =
      satisfied_each ms labels j
      (and_right (satisfies m labels) (satisfies_all ms labels) h) (omega (arith, l))

  -- what fits under another verdict does not answer
  not_answering : (v : Verdict) (row : Entry) → is_match v ≡ false
      → names_known (length query.matchers) v ≡ true → fits_alone query v row ≡ true
      → answers query row ≡ true → ⊥
  not_answering Match row m k f h = true_not_false m
  not_answering NoSample row m k f h =
      true_not_false
      (sym (and_right (satisfies_all query.matchers row.1.0) (has_sample query.from query.to row.1.1)
      h) ∙ not_true (has_sample query.from query.to row.1.1) f)
  not_answering (Rejected j) row m k f h =
      let l : j < length query.matchers = grind (arith, nat_tests) in
      true_not_false
      (sym (satisfied_each query.matchers row.1.0 j (and_left (satisfies_all query.matchers row.1.0)
      (has_sample query.from query.to row.1.1) h) l)
      ∙ not_true (satisfies_at query.matchers j row.1.0) f)

  -- what is left once a series is taken, by whether it fits and whether there is a match
  left_of : (i : Interval) (is : List Interval) (row : Entry) (f m : Bool)
      → fits_alone query i.verdict row ≡ f → is_match i.verdict ≡ m
      → after_taking query row (i ∷ is)
      ≡ cond f (Some (cond m is (i ∷ is))) (cond m None (after_taking query row is))
  left_of i is row f m e d =
      (λ k. cond (e k) (Some (cond (d k) is (i ∷ is))) (cond (d k) None (after_taking query row is)))

  some_same : (a b : List Interval) → Some a ≡ Some b → a ≡ b
  some_same a b e = cc

  none_some : (a : List Interval) → ◌≡◌ {A = Option (List Interval)} None (Some a) → ⊥
  none_some a e = cc

  from_after : (c : List Interval) (row : Entry) (rows : Part) (js : List Interval)
      → after_taking query row c ≡ Some js → TakeInTurn query js rows
      → TakeInTurn query c (row ∷ rows)
  from_after [] row rows js e h = absurd (none_some js e)
  from_after (i ∷ is) row rows js e h =
      elim (either (fits_alone query i.verdict row)) [
        | inl f ↦ elim (either (is_match i.verdict)) [
          | inl m ↦
              take_one i.verdict (TakeInTurn query is) row rows m f
              (subst (λ (c : List Interval). TakeInTurn query c rows)
              (sym (some_same is js (sym (left_of i is row true true f m) ∙ e))) h)
          | inr m ↦
              take_more i.verdict (TakeInTurn query is) row rows m f
              (subst (λ (c : List Interval). TakeInTurn query c rows)
              (sym (some_same (i ∷ is) js (sym (left_of i is row true false f m) ∙ e))) h)
        ]
        | inr f ↦ elim (either (is_match i.verdict)) [
          | inl m ↦ absurd (none_some js (sym (left_of i is row false true f m) ∙ e))
          | inr m ↦
              take_none i.verdict (TakeInTurn query is) (row ∷ rows) m
              (from_after is row rows js (sym (left_of i is row false false f m) ∙ e) h)
        ]
      ]

  nothing_taken : (c : List Interval) → have_no_match c ≡ true → TakeInTurn query c []
  nothing_taken [] h = refl
  nothing_taken (i ∷ is) h =
      take_none i.verdict (TakeInTurn query is) []
      (not_true (is_match i.verdict) (and_left (not (is_match i.verdict)) (have_no_match is) h))
      (nothing_taken is (and_right (not (is_match i.verdict)) (have_no_match is) h))

  pub turn_of : (rows : Part) (c : List Interval) → are_taken_from query (Some c) rows ≡ true
      → TakeInTurn query c rows
  turn_of [] c h = nothing_taken c h
  turn_of (row ∷ rows) c h = go (after_taking query row c) refl h (λ js e. turn_of rows js e)
    where
      go : (o : Option (List Interval)) → after_taking query row c ≡ o
          → are_taken_from query o rows ≡ true
          → ((js : List Interval) → are_taken_from query (Some js) rows ≡ true
          → TakeInTurn query js rows)
          → TakeInTurn query c (row ∷ rows)
      go None e h later = absurd (true_not_false (sym h))
      go (Some js) e h later = from_after c row rows js e (later js h)

  pub known_after : (m : ℕ) (c : List Interval) (row : Entry) (js : List Interval)
      → after_taking query row c ≡ Some js → all_known m c ≡ true → all_known m js ≡ true
  known_after m [] row js e k = absurd (none_some js e)
  known_after m (i ∷ is) row js e k =
      let rest : all_known m is ≡ true =
      and_right (names_known m i.verdict) (all_known m is) k in
      elim (either (fits_alone query i.verdict row)) [
        | inl f ↦ elim (either (is_match i.verdict)) [
          | inl d ↦
              subst (λ (c : List Interval). all_known m c ≡ true)
              (some_same is js (sym (left_of i is row true true f d) ∙ e)) rest
          | inr d ↦
              subst (λ (c : List Interval). all_known m c ≡ true)
              (some_same (i ∷ is) js (sym (left_of i is row true false f d) ∙ e)) k
        ]
        | inr f ↦ elim (either (is_match i.verdict)) [
          | inl d ↦ absurd (none_some js (sym (left_of i is row false true f d) ∙ e))
          | inr d ↦
              known_after m is row js (sym (left_of i is row false false f d) ∙ e) rest
        ]
      ]

  -- what intervals take behind a series that does not answer, they take without it
  without_it : (c : List Interval) (row : Entry) (rows : Part) (js : List Interval)
      → (answers query row ≡ true → ⊥) → after_taking query row c ≡ Some js
      → TakeInTurn query js rows → TakeInTurn query c rows
  without_it [] row rows js n e h = absurd (none_some js e)
  without_it (i ∷ is) row rows js n e h =
      elim (either (fits_alone query i.verdict row)) [
        | inl f ↦ elim (either (is_match i.verdict)) [
          | inl m ↦ absurd (n (sym (match_fits i.verdict row m) ∙ f))
          | inr m ↦
              subst (λ (c : List Interval). TakeInTurn query c rows)
              (sym (some_same (i ∷ is) js (sym (left_of i is row true false f m) ∙ e))) h
        ]
        | inr f ↦ elim (either (is_match i.verdict)) [
          | inl m ↦ absurd (none_some js (sym (left_of i is row false true f m) ∙ e))
          | inr m ↦
              take_none i.verdict (TakeInTurn query is) rows m
              (without_it is row rows js n (sym (left_of i is row false false f m) ∙ e) h)
        ]
      ]

  -- the intervals that are left take the rest
  abbrev Leaves : List Interval → Entry → Part → Type 0
  Leaves c row rows =
      (js : List Interval) × (after_taking query row c ≡ Some js) × TakeInTurn query js rows

  same_first : (x y : Entry) (xs ys : Part) → x ∷ xs ≡ y ∷ ys → x ≡ y
  same_first x y xs ys e = cc

  same_rest : (x y : Entry) (xs ys : Part) → x ∷ xs ≡ y ∷ ys → xs ≡ ys
  same_rest x y xs ys e = cc

  first_takes : (c : List Interval) (row : Entry) (rows : Part)
      → all_known (length query.matchers) c ≡ true → TakeInTurn query c (row ∷ rows)
      → Leaves c row rows
  first_takes [] row rows k h = absurd (let e : row ∷ rows ≡ [] = h in cc)
  first_takes (i ∷ is) row rows k h =
      go h.0 h.1 h.2 h.3 h.4 (either (is_match i.verdict)) (λ t. first_takes is row rows rest t)
    where
      rest : all_known (length query.matchers) is ≡ true
      rest =
          and_right (names_known (length query.matchers) i.verdict)
          (all_known (length query.matchers) is) k

      first : names_known (length query.matchers) i.verdict ≡ true
      first =
          and_left (names_known (length query.matchers) i.verdict)
          (all_known (length query.matchers) is) k

      go : (taken more : Part) → row ∷ rows ≡ taken ++ more → fits query i.verdict taken ≡ true
          → TakeInTurn query is more → (is_match i.verdict ≡ true) ⊎ (is_match i.verdict ≡ false)
          → (TakeInTurn query is (row ∷ rows) → Leaves is row rows) → Leaves (i ∷ is) row rows
      go taken more e f t (inl m) later =
          let x : (x : Entry) × ((taken ≡ x ∷ []) × (fits_alone query i.verdict x ≡ true)) =
          one_taken i.verdict taken m f in
          let all : row ∷ rows ≡ x.0 ∷ more = e ∙ ap (λ (xs : Part). xs ++ more) x.1.0 in
          let same : row ≡ x.0 = same_first row x.0 rows more all in (
            is,
            left_of i is row true true
                (ap (fits_alone query i.verdict) same ∙ x.1.1) m,
            subst (TakeInTurn query is) (sym (same_rest row x.0 rows more all)) t,
          )
      go [] more e f t (inr m) later =
          let next : Leaves is row rows = later (subst (TakeInTurn query is) (sym e) t) in
          elim (either (fits_alone query i.verdict row)) [
            | inl g ↦ (
              i ∷ is,
              left_of i is row true false g m,
              take_none i.verdict (TakeInTurn query is) rows m
                  (without_it is row rows next.0 (not_answering i.verdict row m first g) next.1
                  next.2),
            )
            | inr g ↦ (next.0, left_of i is row false false g m ∙ next.1, next.2)
          ]
      go (x ∷ xs) more e f t (inr m) later =
          let same : row ≡ x = same_first row x rows (xs ++ more) e in
          let both : (fits_alone query i.verdict x && fits query i.verdict xs) ≡ true =
          sym (fits_more i.verdict x xs m) ∙ f in (
            i ∷ is,
            left_of i is row true false
                (ap (fits_alone query i.verdict) same
                ∙ and_left (fits_alone query i.verdict x) (fits query i.verdict xs) both) m,
            (
              xs,
              more,
              same_rest row x rows (xs ++ more) e,
              and_right (fits_alone query i.verdict x) (fits query i.verdict xs) both,
              t,
            ),
          )

  no_match_of : (c : List Interval) → TakeInTurn query c [] → have_no_match c ≡ true
  no_match_of [] h = refl
  no_match_of (i ∷ is) h =
      go h.0 h.1 h.2 h.3 h.4 (either (is_match i.verdict)) (λ t. no_match_of is t)
    where
      go : (taken more : Part) → [] ≡ taken ++ more → fits query i.verdict taken ≡ true
          → TakeInTurn query is more → (is_match i.verdict ≡ true) ⊎ (is_match i.verdict ≡ false)
          → (TakeInTurn query is [] → have_no_match is ≡ true) → have_no_match (i ∷ is) ≡ true
      go taken more e f t (inl m) later =
          let x : (x : Entry) × ((taken ≡ x ∷ []) × (fits_alone query i.verdict x ≡ true)) =
          one_taken i.verdict taken m f in
          absurd (let all : [] ≡ x.0 ∷ more = e ∙ ap (λ (xs : Part). xs ++ more) x.1.0 in cc)
      go [] more e f t (inr m) later =
          and_both (not (is_match i.verdict)) (have_no_match is)
          (true_not (is_match i.verdict) m) (later (subst (TakeInTurn query is) (sym e) t))
      go (x ∷ xs) more e f t (inr m) later = absurd (let all : [] ≡ x ∷ (xs ++ more) = e in cc)

  pub of_turn : (rows : Part) (c : List Interval) → all_known (length query.matchers) c ≡ true
      → TakeInTurn query c rows → are_taken_from query (Some c) rows ≡ true
  of_turn [] c k h = no_match_of c h
  of_turn (row ∷ rows) c k h =
      let next : Leaves c row rows = first_takes c row rows k h in
      ap (λ (o : Option (List Interval)). are_taken_from query o rows) next.1
      ∙ of_turn rows next.0 (known_after (length query.matchers) c row next.0 next.1 k) next.2

  -- one series more is taken
  pub taken_next : (rows : Part) (i : ℕ) (row : Entry) (rest left : List Interval) (whole : Bool)
      → i < length rows → row ≡ get_or rows i row → is_sampled row ≡ true
      → Some left ≡ after_taking query row rest
      → are_taken_from query (Some rest) (sampled (drop i rows)) ≡ whole
      → are_taken_from query (Some left) (sampled (drop (i + 1) rows)) ≡ whole
  taken_next rows i row rest left whole l read has e so_far =
      ap (λ (o : Option (List Interval)). are_taken_from query o (sampled (drop (i + 1) rows))) e
      ∙ sym (ap (λ (p : Part). are_taken_from query (Some rest) (sampled p))
      (from_read rows i row l read)
      ∙ ap (λ (b : Bool). are_taken_from query (Some rest)
      (cond b (row ∷ sampled (drop (i + 1) rows)) (sampled (drop (i + 1) rows)))) has)
      ∙ so_far

  -- a series without samples is passed over
  pub taken_past : (rows : Part) (i : ℕ) (row : Entry) (rest : List Interval) (whole : Bool)
      → i < length rows → row ≡ get_or rows i row → is_sampled row ≡ false
      → are_taken_from query (Some rest) (sampled (drop i rows)) ≡ whole
      → are_taken_from query (Some rest) (sampled (drop (i + 1) rows)) ≡ whole
  taken_past rows i row rest whole l read none so_far =
      sym (ap (λ (p : Part). are_taken_from query (Some rest) (sampled p))
      (from_read rows i row l read)
      ∙ ap (λ (b : Bool). are_taken_from query (Some rest)
      (cond b (row ∷ sampled (drop (i + 1) rows)) (sampled (drop (i + 1) rows)))) none)
      ∙ so_far
