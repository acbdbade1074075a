-- The samples of rows, as steps at a head.
use Rattle.std.specs.Prelude.{◌≡◌, ℕ, zero, suc, ℤ, ◌+◌, ◌<◌, ◌≤◌, true, false, Bool, T, List, [], ◌∷◌, ◌++◌, None, Some, Result, Ok, Err, refl, length, slice_index_or, nat_le, if◌then◌else◌}
use Rattle.std.specs.List.{list_all}
use Rattle.std.proofs.Common.{sym, ◌∙◌, ap, subst, arith, drop}
use Rattle.std.proofs.lemmas.List.{length-append, length-map}
use Rattle.head.specs.declared.error.CommitError.{CommitError}
use Rattle.head.specs.Outcomes.{IsStepRefusal}
use Rattle.labels.specs.Labels.{Labels}
use Rattle.labels.specs.Rows.{Row}
use Rattle.head.specs.Refusals.{Refusal, limit}
use Rattle.head.specs.Limits.{max_series}
use Rattle.head.specs.Heads.{HeadSeries}
use Rattle.head.specs.BatchRows.{pairs_with, batch_of_rows}
use Rattle.head.specs.Orders.{sets_of}
use Rattle.head.specs.Slots.{Slot, series_in_each}
use Rattle.head.specs.Taking.{head_added, head_added_each, new_added, place_from}
use Rattle.head.proofs.Applies.{stuck, answer_same}
use Rattle.labels.proofs.Times.{both_T, first_T, second_T}
use Rattle.head.proofs.Ordered.{place_new}
use Rattle.head.proofs.SlotLaws.{length-each, length-sets}

-- a series that was begun stands last
pub new_placed : (l : Labels) (s : ℤ × ℤ) (head new : List HeadSeries) → place_from l 0 head ≡ None → new_added l s head ≡ Ok new → place_from l 0 new ≡ Some (length head)
new_placed l s head new none is =
    elim (nat_le max_series (length head)) as (λ b. (if b then Err limit else Ok (head ++ record { labels = l; samples = s ∷ []; newest = s } ∷ [])) ≡ Ok new → place_from l 0 new ≡ Some (length head)) [
      | true ↦ λ e. absurd cc
      | false ↦ λ e.
          let made : head ++ record { labels = l; samples = s ∷ []; newest = s } ∷ [] ≡ new = cc in
          subst (λ (hs : List HeadSeries). place_from l 0 hs ≡ Some (length head)) made (stands_last l s head none)
    ] is
  where
    stands_last : (l : Labels) (s : ℤ × ℤ) (head : List HeadSeries) → place_from l 0 head ≡ None → place_from l 0 (head ++ record { labels = l; samples = s ∷ []; newest = s } ∷ []) ≡ Some (length head)
    stands_last l s head none = place_new head (record { labels = l; samples = s ∷ []; newest = s }) none

-- a place stays inside where the label sets stay
pub still_inside : (old new : List Slot) (place : ℕ) → sets_of (series_in_each new) ≡ sets_of (series_in_each old) → place < length old → place < length new
still_inside old new place same inside =
    let a = length-sets (series_in_each old) in
    let b = length-sets (series_in_each new) in
    let c = length-each old in
    let d = length-each new in
    let e = ap length same in
    omega arith

-- the samples of a front, and then those that follow
pub each_more : (floor : ℤ) (r : Result (List HeadSeries) Refusal) (at : ℕ) (xs ys : List (Labels × (ℤ × ℤ))) →
    head_added_each floor r at (xs ++ ys) ≡ head_added_each floor (head_added_each floor r at xs) (at + length xs) ys
each_more floor r at [] ys = let e : at ≡ at + zero = omega arith in ap (λ n. head_added_each floor r n ys) e
each_more floor (Err e) at (x ∷ xs) ys = sym (stuck floor (at + suc (length xs)) ys e)
each_more floor (Ok head) at (x ∷ xs) ys =
    let e : (at + 1) + length xs ≡ at + suc (length xs) = omega arith in
    each_more floor (head_added floor head at x) (at + 1) xs ys
    ∙ ap (λ n. head_added_each floor (head_added_each floor (head_added floor head at x) (at + 1) xs) n ys) e

-- the first refused one refuses all that follow
pub refused_on : (floor : ℤ) (at : ℕ) (xs : List (Labels × (ℤ × ℤ))) (r : Result (List HeadSeries) Refusal) (e : CommitError) → IsStepRefusal e r → IsStepRefusal e (head_added_each floor r at xs)
refused_on floor at xs r e is = answer_same e (λ q. head_added_each floor q at xs) (stuck floor at xs) r is

pub refused_front : (floor : ℤ) (r : Result (List HeadSeries) Refusal) (at : ℕ) (xs ys : List (Labels × (ℤ × ℤ))) (e : CommitError) →
    IsStepRefusal e (head_added_each floor r at xs) → IsStepRefusal e (head_added_each floor r at (xs ++ ys))
refused_front floor r at xs ys e is =
    subst (IsStepRefusal e) (sym (each_more floor r at xs ys)) (refused_on floor (at + length xs) ys (head_added_each floor r at xs) e is)

pairs_cut : (l : Labels) (i : ℕ) (samples : List (ℤ × ℤ)) (s : ℤ × ℤ) → i < length samples → s ≡ slice_index_or samples i s →
    drop i (pairs_with l samples) ≡ (l, s) ∷ drop (suc i) (pairs_with l samples)
pairs_cut l i [] s inside is = absurd (omega (arith, inside))
pairs_cut l zero (x ∷ xs) s inside is = ap (λ (y : ℤ × ℤ). (l, y) ∷ pairs_with l xs) (sym is)
pairs_cut l (suc i) (x ∷ xs) s inside is = pairs_cut l i xs s (omega (arith, inside)) is

-- the pairs of a label set from one of its samples on
pub pairs_from : (l : Labels) (i : ℕ) (samples : List (ℤ × ℤ)) (s : ℤ × ℤ) → i < length samples → s ≡ slice_index_or samples i s →
    drop i (pairs_with l samples) ≡ (l, s) ∷ drop (i + 1) (pairs_with l samples)
pairs_from l i samples s inside is =
    let e : suc i ≡ i + 1 = omega arith in
    pairs_cut l i samples s inside is ∙ ap (λ n. (l, s) ∷ drop n (pairs_with l samples)) e

-- one sample of a label set, and then the others
pub pair_next : (floor : ℤ) (head : List HeadSeries) (at i : ℕ) (l : Labels) (samples : List (ℤ × ℤ)) (s : ℤ × ℤ) (step : Result (List HeadSeries) Refusal) →
    i < length samples → s ≡ slice_index_or samples i s → head_added floor head (at + i) (l, s) ≡ step →
    head_added_each floor (Ok head) (at + i) (drop i (pairs_with l samples)) ≡ head_added_each floor step (at + (i + 1)) (drop (i + 1) (pairs_with l samples))
pair_next floor head at i l samples s step inside is made =
    let e : (at + i) + 1 ≡ at + (i + 1) = omega arith in
    ap (head_added_each floor (Ok head) (at + i)) (pairs_from l i samples s inside is)
    ∙ (λ k. head_added_each floor (made k) (e k) (drop (i + 1) (pairs_with l samples)))

-- a label set that passes a test passes it in each pair
pub all_pairs : (p : Labels → Bool) (l : Labels) (samples : List (ℤ × ℤ)) → T (p l) → T (list_all (λ x. p x.0) (pairs_with l samples))
all_pairs p l [] h = tt
all_pairs p l (s ∷ ss) h = both_T (p l) (list_all (λ x. p x.0) (pairs_with l ss)) h (all_pairs p l ss h)

-- of a row with a sample, the label set
pub first_pair : (p : Labels → Bool) (l : Labels) (samples : List (ℤ × ℤ)) → 0 < length samples → T (list_all (λ x. p x.0) (pairs_with l samples)) → T (p l)
first_pair p l [] some all = absurd (omega (arith, some))
first_pair p l (s ∷ ss) some all = first_T (p l) (list_all (λ x. p x.0) (pairs_with l ss)) all

-- no pair is left after the last sample
pub pairs_end : (l : Labels) (i : ℕ) (samples : List (ℤ × ℤ)) → length samples ≤ i → drop i (pairs_with l samples) ≡ []
pairs_end l zero [] h = refl
pairs_end l (suc i) [] h = refl
pairs_end l zero (s ∷ ss) h = absurd (omega (arith, h))
pairs_end l (suc i) (s ∷ ss) h = pairs_end l i ss (omega (arith, h))

pub split_all : (p : Labels × (ℤ × ℤ) → Bool) (xs ys : List (Labels × (ℤ × ℤ))) → T (list_all p (xs ++ ys)) → T (list_all p xs) × T (list_all p ys)
split_all p [] ys h = (tt, h)
split_all p (x ∷ xs) ys h =
    let rest = split_all p xs ys (second_T (p x) (list_all p (xs ++ ys)) h) in
    (both_T (p x) (list_all p xs) (first_T (p x) (list_all p (xs ++ ys)) h) rest.0, rest.1)

rows_cut : (i : ℕ) (rows : List Row) (row : Row) → i < length rows → row ≡ slice_index_or rows i row →
    batch_of_rows (drop i rows) ≡ pairs_with row.0 row.1 ++ batch_of_rows (drop (suc i) rows)
rows_cut i [] row inside is = absurd (omega (arith, inside))
rows_cut zero (r ∷ rs) row inside is = ap (λ (x : Row). pairs_with x.0 x.1 ++ batch_of_rows rs) (sym is)
rows_cut (suc i) (r ∷ rs) row inside is = rows_cut i rs row (omega (arith, inside)) is

-- the pairs of the rows from one of them on
pub rows_from_here : (i : ℕ) (rows : List Row) (row : Row) → i < length rows → row ≡ slice_index_or rows i row →
    batch_of_rows (drop i rows) ≡ pairs_with row.0 row.1 ++ batch_of_rows (drop (i + 1) rows)
rows_from_here i rows row inside is =
    let e : suc i ≡ i + 1 = omega arith in
    rows_cut i rows row inside is ∙ ap (λ n. pairs_with row.0 row.1 ++ batch_of_rows (drop n rows)) e

pub all_in_row : (p : Labels × (ℤ × ℤ) → Bool) (i : ℕ) (rows : List Row) (row : Row) → i < length rows → row ≡ slice_index_or rows i row →
    T (list_all p (batch_of_rows rows)) → T (list_all p (pairs_with row.0 row.1))
all_in_row p i [] row inside is all = absurd (omega (arith, inside))
all_in_row p zero (r ∷ rs) row inside is all =
    subst (λ (x : Row). T (list_all p (pairs_with x.0 x.1))) (sym is) (split_all p (pairs_with r.0 r.1) (batch_of_rows rs) all).0
all_in_row p (suc i) (r ∷ rs) row inside is all =
    all_in_row p i rs row (omega (arith, inside)) is (split_all p (pairs_with r.0 r.1) (batch_of_rows rs) all).1

-- how many samples are left after those of a row
pub left_after : (i : ℕ) (rows : List Row) (row : Row) → i < length rows → row ≡ slice_index_or rows i row →
    length (batch_of_rows (drop i rows)) ≡ length row.1 + length (batch_of_rows (drop (i + 1) rows))
left_after i rows row inside is =
    ap (λ (xs : List (Labels × (ℤ × ℤ))). length xs) (rows_from_here i rows row inside is)
    ∙ length-append (pairs_with row.0 row.1) (batch_of_rows (drop (i + 1) rows))
    ∙ ap (λ n. n + length (batch_of_rows (drop (i + 1) rows))) (length-map row.1 (λ (s : ℤ × ℤ). (row.0, s)))

-- the samples of a row, and then the rows that follow
pub row_next : (floor : ℤ) (head : List HeadSeries) (at i : ℕ) (rows : List Row) (row : Row) (step : Result (List HeadSeries) Refusal) →
    i < length rows → row ≡ slice_index_or rows i row → head_added_each floor (Ok head) at (pairs_with row.0 row.1) ≡ step →
    head_added_each floor (Ok head) at (batch_of_rows (drop i rows)) ≡ head_added_each floor step (at + length row.1) (batch_of_rows (drop (i + 1) rows))
row_next floor head at i rows row step inside is made =
    let count : length (pairs_with row.0 row.1) ≡ length row.1 = length-map row.1 (λ (s : ℤ × ℤ). (row.0, s)) in
    ap (head_added_each floor (Ok head) at) (rows_from_here i rows row inside is)
    ∙ each_more floor (Ok head) at (pairs_with row.0 row.1) (batch_of_rows (drop (i + 1) rows))
    ∙ (λ k. head_added_each floor (made k) (at + count k) (batch_of_rows (drop (i + 1) rows)))

-- The samples of a label set from one place on are added as all are. The next one is accepted, or
-- refused, or there is none.
pub each_next : (floor : ℤ) (first head new : List HeadSeries) (at i : ℕ) (l : Labels) (samples : List (ℤ × ℤ)) (s : ℤ × ℤ) → i < length samples → s ≡ slice_index_or samples i s →
    head_added_each floor (Ok head) (at + i) (drop i (pairs_with l samples)) ≡ head_added_each floor (Ok first) at (pairs_with l samples) →
    head_added floor head (at + i) (l, s) ≡ Ok new →
    head_added_each floor (Ok new) (at + (i + 1)) (drop (i + 1) (pairs_with l samples)) ≡ head_added_each floor (Ok first) at (pairs_with l samples)
each_next floor first head new at i l samples s inside is same step =
    sym (pair_next floor head at i l samples s (Ok new) inside is step) ∙ same

pub each_refused : (floor : ℤ) (first head : List HeadSeries) (at i : ℕ) (l : Labels) (samples : List (ℤ × ℤ)) (s : ℤ × ℤ) (e : CommitError) → i < length samples → s ≡ slice_index_or samples i s →
    head_added_each floor (Ok head) (at + i) (drop i (pairs_with l samples)) ≡ head_added_each floor (Ok first) at (pairs_with l samples) →
    IsStepRefusal e (head_added floor head (at + i) (l, s)) → IsStepRefusal e (head_added_each floor (Ok first) at (pairs_with l samples))
each_refused floor first head at i l samples s e inside is same step =
    subst (IsStepRefusal e) (sym (pair_next floor head at i l samples s (head_added floor head (at + i) (l, s)) inside is refl) ∙ same)
    (refused_on floor (at + (i + 1)) (drop (i + 1) (pairs_with l samples)) (head_added floor head (at + i) (l, s)) e step)

pub each_done : (floor : ℤ) (first head : List HeadSeries) (at i : ℕ) (l : Labels) (samples : List (ℤ × ℤ)) → length samples ≤ i →
    head_added_each floor (Ok head) (at + i) (drop i (pairs_with l samples)) ≡ head_added_each floor (Ok first) at (pairs_with l samples) →
    head_added_each floor (Ok first) at (pairs_with l samples) ≡ Ok head
each_done floor first head at i l samples over same =
    sym same ∙ ap (head_added_each floor (Ok head) (at + i)) (pairs_end l i samples over)

-- the first sample of a row, and then the others
pub row_refused_first : (floor : ℤ) (head : List HeadSeries) (at : ℕ) (l : Labels) (samples rest : List (ℤ × ℤ)) (s : ℤ × ℤ) (e : CommitError) → samples ≡ s ∷ rest →
    IsStepRefusal e (head_added floor head at (l, s)) → IsStepRefusal e (head_added_each floor (Ok head) at (pairs_with l samples))
row_refused_first floor head at l samples rest s e is step =
    subst (λ (ss : List (ℤ × ℤ)). IsStepRefusal e (head_added_each floor (Ok head) at (pairs_with l ss))) (sym is)
    (refused_on floor (at + 1) (pairs_with l rest) (head_added floor head at (l, s)) e step)

pub row_after_first : (floor : ℤ) (head next : List HeadSeries) (at : ℕ) (l : Labels) (samples rest : List (ℤ × ℤ)) (s : ℤ × ℤ) → samples ≡ s ∷ rest →
    head_added floor head at (l, s) ≡ Ok next →
    head_added_each floor (Ok head) at (pairs_with l samples) ≡ head_added_each floor (Ok next) (at + 1) (pairs_with l rest)
row_after_first floor head next at l samples rest s is step =
    ap (λ (ss : List (ℤ × ℤ)). head_added_each floor (Ok head) at (pairs_with l ss)) is
    ∙ ap (λ (r : Result (List HeadSeries) Refusal). head_added_each floor r (at + 1) (pairs_with l rest)) step

-- the rows from one place on are added as all are
pub rows_next : (floor : ℤ) (first head new : List HeadSeries) (at i : ℕ) (rows : List Row) (row : Row) → i < length rows → row ≡ slice_index_or rows i row →
    head_added_each floor (Ok head) at (batch_of_rows (drop i rows)) ≡ head_added_each floor (Ok first) 0 (batch_of_rows rows) →
    head_added_each floor (Ok head) at (pairs_with row.0 row.1) ≡ Ok new →
    head_added_each floor (Ok new) (at + length row.1) (batch_of_rows (drop (i + 1) rows)) ≡ head_added_each floor (Ok first) 0 (batch_of_rows rows)
rows_next floor first head new at i rows row inside is same step =
    sym (row_next floor head at i rows row (Ok new) inside is step) ∙ same

pub rows_refused : (floor : ℤ) (first head : List HeadSeries) (at i : ℕ) (rows : List Row) (row : Row) (e : CommitError) → i < length rows → row ≡ slice_index_or rows i row →
    head_added_each floor (Ok head) at (batch_of_rows (drop i rows)) ≡ head_added_each floor (Ok first) 0 (batch_of_rows rows) →
    IsStepRefusal e (head_added_each floor (Ok head) at (pairs_with row.0 row.1)) → IsStepRefusal e (head_added_each floor (Ok first) 0 (batch_of_rows rows))
rows_refused floor first head at i rows row e inside is same step =
    subst (IsStepRefusal e) (sym (row_next floor head at i rows row (head_added_each floor (Ok head) at (pairs_with row.0 row.1)) inside is refl) ∙ same)
    (refused_on floor (at + length row.1) (batch_of_rows (drop (i + 1) rows)) (head_added_each floor (Ok head) at (pairs_with row.0 row.1)) e step)
