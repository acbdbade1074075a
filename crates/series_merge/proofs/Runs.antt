-- Rows in runs of ascending times.
use Rattle.std.proofs.Common.{◌≡◌, ℕ, zero, suc, ◌+◌, ◌-◌, ◌<◌, ◌≤◌, ℤ, T, List, [], ◌∷◌, ◌++◌, length, take, drop, get_or, refl, sym, ◌∙◌, ap, subst, arith, append_assoc}
use Rattle.std.specs.Prelude.{◌≢◌}
use Rattle.std.specs.List.{All}
use Rattle.std.specs.declared.cmp.Ordering.TheVariants.{Less}
use Rattle.std.specs.Ordering.{int_cmp, is_lt}
use Rattle.std.specs.FinMap.Entries.{is_sorted}
use Rattle.std.proofs.Math.Seq.{drop-cons}
use Rattle.std.proofs.lemmas.Grind.{take_at_read}
use Rattle.std.proofs.lemmas.List.{take-append-drop}
use Rattle.std.proofs.lemmas.List.{append-nil}
use Rattle.std.proofs.lemmas.List.Elements.{All-push, All-append}
use Rattle.std.proofs.lemmas.Option.{slice_get-get_or, get_or_from_slice_get}
use Rattle.labels.specs.Labels.{Labels}
use Rattle.labels.specs.Rows.{Row, points_in, points_of, IsFull}
use Rattle.labels.proofs.Times.{both_T, first_T, second_T, T_of}
use Rattle.cover.specs.declared.part_cover.PartAnswer.{PartAnswer}
use Rattle.series_merge.specs.Merging.{AreRuns, ListAlike, newest_first, row_lists}
use Rattle.series_merge.specs.Walking.{all_rows}
use Rattle.series_merge.proofs.Contents.{points_of-++, ListAlike-++}
use Rattle.series_merge.proofs.Fronts.{all_rows-last}
use Rattle.series_merge.proofs.LaidTimes.{below_later, less_is}

-- a further sample after those that ascend
more_rise : (n : ℕ) (xs : List (ℤ × ℤ)) (d : ℤ × ℤ) → suc n < length xs
    → T (is_sorted int_cmp (take (suc n) xs))
    → int_cmp (get_or xs n d).0 (get_or xs (suc n) d).0 ≡ Less
    → T (is_sorted int_cmp (take (suc (suc n)) xs))
more_rise n [] d lt up less = absurd (omega (arith, lt))
more_rise n (x ∷ []) d lt up less = absurd (omega (arith, lt))
more_rise zero (x ∷ y ∷ ys) d lt up less = both_T _ _ (both_T _ _ (T_of _ (ap is_lt less)) tt) tt
more_rise (suc n) (x ∷ y ∷ ys) d lt up less =
    let rest : T (is_sorted int_cmp (take (suc (suc n)) (y ∷ ys))) = more_rise n (y ∷ ys) d (omega (arith, lt)) (second_T _ _ up) less in
    let first : int_cmp x.0 y.0 ≡ Less = less_is _ (first_T _ _ (first_T _ _ up)) in
    both_T _ _
    (both_T _ _ (T_of _ (ap is_lt first)) (below_later x.0 y.0 (take (suc n) ys) first (first_T _ _ rest)))
    rest

rises_at : (at : ℕ) (xs : List (ℤ × ℤ)) (d : ℤ × ℤ) → 0 < at → at < length xs
    → T (is_sorted int_cmp (take at xs))
    → int_cmp (get_or xs (at - 1) d).0 (get_or xs at d).0 ≡ Less
    → T (is_sorted int_cmp (take (at + 1) xs))
rises_at zero xs d some lt up less = absurd (omega (arith, some))
rises_at (suc n) xs d some lt up less =
    let next : suc (suc n) ≡ suc n + 1 = omega arith in
    let place : suc n - 1 ≡ n = omega arith in
    subst (λ (k : ℕ). T (is_sorted int_cmp (take k xs))) next
    (more_rise n xs d lt up
    (subst (λ (k : ℕ). int_cmp (get_or xs k d).0 (get_or xs (suc n) d).0 ≡ Less) place less))

pub next_rises : (at : ℕ) (xs : List (ℤ × ℤ)) (x y : ℤ × ℤ) → 0 < at → at < length xs
    → T (is_sorted int_cmp (take at xs)) → x ≡ get_or xs (at - 1) x → y ≡ get_or xs at y
    → int_cmp x.0 y.0 ≡ Less → T (is_sorted int_cmp (take (at + 1) xs))
next_rises at xs x y some lt up first second less =
    let before : get_or xs (at - 1) y ≡ x =
    get_or_from_slice_get xs (at - 1) (get_or xs (at - 1) x) y
    (slice_get-get_or xs (at - 1) x (omega (arith, some, lt)))
    ∙ sym first in
    rises_at at xs y some lt up ((λ i. int_cmp (before i).0 (sym second i).0) ∙ less)

points_in-++ : (l : Labels) (xs ys : List (ℤ × ℤ)) → points_in l (xs ++ ys) ≡ points_in l xs ++ points_in l ys
points_in-++ l [] ys = refl
points_in-++ l (x ∷ xs) ys = ap (λ c. ((l, x.0), x.1) ∷ c) (points_in-++ l xs ys)

pub cut_at : (n : ℕ) (left run after : List (ℤ × ℤ)) → run ≡ take n left → after ≡ drop n left
    → left ≡ run ++ after
cut_at n left run after front back =
    sym (take-append-drop n left)
    ∙ ap (λ (xs : List (ℤ × ℤ)). xs ++ drop n left) (sym front)
    ∙ ap (λ (ys : List (ℤ × ℤ)). run ++ ys) (sym back)

-- a run more, taken from the samples that are left
pub run_pushed : (all new whole : List Row) (row : Row) (before left run after : List (ℤ × ℤ))
    → points_of all ++ points_in row.0 left ≡ points_of whole ++ points_in row.0 before
    → left ≡ run ++ after → new ≡ all ++ (row.0, run) ∷ []
    → points_of new ++ points_in row.0 after ≡ points_of whole ++ points_in row.0 before
run_pushed all new whole row before left run after inv cut put =
    ap (λ (rows : List Row). points_of rows ++ points_in row.0 after) put
    ∙ ap (λ c. c ++ points_in row.0 after)
    (points_of-++ all ((row.0, run) ∷ []) ∙ ap (λ c. points_of all ++ c) (append-nil (points_in row.0 run)))
    ∙ append_assoc (points_of all) (points_in row.0 run) (points_in row.0 after)
    ∙ ap (λ c. points_of all ++ c) (sym (points_in-++ row.0 run after) ∙ ap (points_in row.0) (sym cut))
    ∙ inv

pub runs_pushed : (all new : List Row) (r : Row) → AreRuns all → IsFull r → T (is_sorted int_cmp r.1)
    → new ≡ all ++ r ∷ [] → AreRuns new
runs_pushed all new r are full rises put =
    subst AreRuns (sym put) (record {
      full = All-push IsFull all r are.full full;
      rise = All-push (λ (x : Row). T (is_sorted int_cmp x.1)) all r are.rise rises;
    })

full_take : (n : ℕ) (xs : List (ℤ × ℤ)) → 0 < n → 0 < length xs → take n xs ≢ []
full_take zero xs some long e = omega (arith, some)
full_take (suc n) [] some long e = omega (arith, long)
full_take (suc n) (x ∷ xs) some long e = absurd cc

pub run_full : (n : ℕ) (xs : List (ℤ × ℤ)) (l : Labels) → 0 < n → 0 < length xs → IsFull (l, take n xs)
run_full n xs l some long = full_take n xs some long

-- the runs of one row more
pub rows_pushed : (whole all new rows : List Row) (n : ℕ) (r : Row) → n < length rows
    → r ≡ get_or rows n r → points_of all ≡ points_of whole ++ points_of (take n rows)
    → points_of new ≡ points_of all ++ points_in r.0 r.1
    → points_of new ≡ points_of whole ++ points_of (take (n + 1) rows)
rows_pushed whole all new rows n r lt at inv put =
    let more : take (n + 1) rows ≡ take n rows ++ r ∷ [] =
    (take_at_read rows n r lt).1 ∙ ap (λ (x : Row). take n rows ++ x ∷ []) (sym at) in
    put
    ∙ ap (λ c. c ++ points_in r.0 r.1) inv
    ∙ append_assoc (points_of whole) (points_of (take n rows)) (points_in r.0 r.1)
    ∙ ap (λ c. points_of whole ++ c)
    (ap (λ c. points_of (take n rows) ++ c) (sym (append-nil (points_in r.0 r.1)))
    ∙ sym (points_of-++ (take n rows) (r ∷ []))
    ∙ ap points_of (sym more))

-- the rows of one answer more
pub answer_pushed : (answers : List PartAnswer) (left : ℕ) (a : PartAnswer)
    (parts new : List (List Row)) (runs : List Row)
    → 0 < left → left ≤ length answers → a ≡ get_or answers (left - 1) a
    → ListAlike (all_rows parts) (newest_first (row_lists (drop left answers)))
    → ListAlike runs a.rows.items → new ≡ parts ++ runs ∷ []
    → ListAlike (all_rows new) (newest_first (row_lists (drop (left - 1) answers)))
answer_pushed answers zero a parts new runs some within at inv list put = absurd (omega (arith, some))
answer_pushed answers (suc n) a parts new runs some within at inv list put =
    let place : suc n - 1 ≡ n = omega arith in
    let older : List Row = newest_first (row_lists (drop (suc n) answers)) in
    let front : drop n answers ≡ a ∷ drop (suc n) answers =
    drop-cons answers n a (omega (arith, within))
    ∙ ap (λ (x : PartAnswer). x ∷ drop (suc n) answers)
    (ap (λ (k : ℕ). get_or answers k a) (sym place) ∙ sym at) in
    let whole : older ++ a.rows.items ≡ newest_first (row_lists (drop (suc n - 1) answers)) =
    ap (λ (xs : List PartAnswer). newest_first (row_lists xs)) (sym front)
    ∙ ap (λ (k : ℕ). newest_first (row_lists (drop k answers))) (sym place) in
    let pushed : all_rows new ≡ all_rows parts ++ runs = ap all_rows put ∙ all_rows-last parts runs in
    subst (ListAlike (all_rows new)) whole
    (subst (λ (xs : List Row). ListAlike xs (older ++ a.rows.items)) (sym pushed)
    (ListAlike-++ (all_rows parts) older runs a.rows.items inv list))

pub full_part : (parts new : List (List Row)) (runs : List Row) → new ≡ parts ++ runs ∷ []
    → All IsFull (all_rows parts) → All IsFull runs → All IsFull (all_rows new)
full_part parts new runs put full runs_full =
    subst (All IsFull) (sym (ap all_rows put ∙ all_rows-last parts runs))
    (All-append IsFull (all_rows parts) runs full runs_full)

-- a row that has samples is put at the end
pub row_pushed : (all new : List Row) (r : Row) → new ≡ all ++ r ∷ []
    → points_of new ≡ points_of all ++ points_in r.0 r.1
row_pushed all new r put =
    ap points_of put
    ∙ points_of-++ all (r ∷ [])
    ∙ ap (λ c. points_of all ++ c) (append-nil (points_in r.0 r.1))

full_row : (ss : List (ℤ × ℤ)) → 0 < length ss → ss ≢ []
full_row [] some e = omega (arith, some)
full_row (s ∷ ss) some e = absurd cc

pub full_pushed : (all new : List Row) (r : Row) → All IsFull all → 0 < length r.1
    → new ≡ all ++ r ∷ [] → All IsFull new
full_pushed all new r full some put =
    subst (All IsFull) (sym put) (All-push IsFull all r full (full_row r.1 some))
