-- Runs and the batches that they are.
use Rattle.std.proofs.Common.{◌≡◌, ℕ, zero, suc, ◌+◌, ◌<◌, ◌≤◌, inl, inr, Bool, true, false}
use Rattle.std.proofs.Common.{not, ℤ, List, [], ◌∷◌, ◌++◌, length, take, drop, get_or}
use Rattle.std.proofs.Common.{append_assoc, refl, sym, ap, subst, ◌∙◌, arith}
use Rattle.std.specs.Prelude.{◌&&◌, ◌==◌}
use Rattle.std.specs.List.{AllByRecursion, flat_map, list_all}
use Rattle.std.proofs.lemmas.Bool.{cases_Bool}
use Rattle.labels.specs.Labels.{Labels, same_labels}
use Rattle.labels.proofs.OrderLaws.{same_self, same_turn}
use Rattle.head.specs.Worlds.{Batch}
use Rattle.head.proofs.HeadLaws.{same_path}
use Rattle.std.proofs.lemmas.List.{drop_all, length-drop, take_more}
use Rattle.std.proofs.lemmas.List.Concat.{flat_map-cons}
use Rattle.head.specs.BatchRows.{batch_of_rows, pairs_with}
use Rattle.event_text.specs.Runs.{Run, joined, runs_of, before, batch_in, differ, lead, values_in}
use Rattle.event_text.specs.Runs.{are_runs, is_filled}
use Rattle.event_text.specs.Spelling.{run_text}
use Rattle.event_text.proofs.Neighbours.{from_read}

abbrev Item : Type 0
Item = Labels × (ℤ × ℤ)

-- the batch of runs that a sample joined

joined_same : (x : Item) (run : Run) (runs : List Run) → same_labels x.0 run.0 ≡ true
    → joined x (run ∷ runs) ≡ (x.0, x.1 ∷ run.1) ∷ runs
joined_same x run runs e = rw e refl

joined_other : (x : Item) (run : Run) (runs : List Run) → same_labels x.0 run.0 ≡ false
    → joined x (run ∷ runs) ≡ (x.0, x.1 ∷ []) ∷ run ∷ runs
joined_other x run runs e = rw e refl

batch_joined : (x : Item) (runs : List Run) → batch_in (joined x runs) ≡ x ∷ batch_in runs
batch_joined x [] = refl
batch_joined x (run ∷ runs) =
    elim (cases_Bool (same_labels x.0 run.0)) [
      | inl t ↦
          ap batch_in (joined_same x run runs t)
          ∙ ap (λ (l : Labels). x ∷ before l run.1 (batch_in runs)) (same_path x.0 run.0 t)
      | inr f ↦ ap batch_in (joined_other x run runs f)
    ]

-- the batch that its runs are
pub batch_runs : (xs : Batch) → batch_in (runs_of xs) ≡ xs
batch_runs [] = refl
batch_runs (x ∷ xs) =
    batch_joined x (runs_of xs) ∙ ap (λ (ys : Batch). x ∷ ys) (batch_runs xs)

-- runs of a batch have each another label set than the next

and_right : (a b : Bool) → (a && b) ≡ true → b ≡ true
and_right true b h = h
and_right false b h = absurd cc

and_left : (a b : Bool) → (a && b) ≡ true → a ≡ true
and_left true b h = refl
and_left false b h = absurd cc

and_true : (a b : Bool) → a ≡ true → (a && b) ≡ b
and_true true b h = refl
and_true false b h = absurd cc

and_false : (a b : Bool) → a ≡ false → (a && b) ≡ false
and_false true b h = absurd cc
and_false false b h = refl

not_same : (b : Bool) → not b ≡ true → b ≡ false
not_same true h = absurd cc
not_same false h = refl

other_samples : (l : Labels) (ss ts : List (ℤ × ℤ)) (runs : List Run)
    → differ ((l, ss) ∷ runs) ≡ true → differ ((l, ts) ∷ runs) ≡ true
other_samples l ss ts [] h = refl
other_samples l ss ts (run ∷ runs) h = h

differ_joined : (x : Item) (runs : List Run) → differ runs ≡ true → differ (joined x runs) ≡ true
differ_joined x [] h = refl
differ_joined x (run ∷ runs) h =
    elim (cases_Bool (same_labels x.0 run.0)) [
      | inl t ↦
          ap differ (joined_same x run runs t)
          ∙ (ap (λ (l : Labels). differ ((l, x.1 ∷ run.1) ∷ runs)) (same_path x.0 run.0 t)
          ∙ other_samples run.0 run.1 (x.1 ∷ run.1) runs h)
      | inr f ↦ ap differ (joined_other x run runs f) ∙ rw (f, h) refl
    ]

pub differ_runs : (xs : Batch) → differ (runs_of xs) ≡ true
differ_runs [] = refl
differ_runs (x ∷ xs) = differ_joined x (runs_of xs) (differ_runs xs)

-- runs that differ and are filled are those of their batch

joined_before : (l : Labels) (s : ℤ × ℤ) (runs : List Run) → differ ((l, s ∷ []) ∷ runs) ≡ true
    → joined (l, s) runs ≡ (l, s ∷ []) ∷ runs
joined_before l s [] h = refl
joined_before l s (run ∷ runs) h =
    let apart : same_labels l run.0 ≡ false =
    not_same (same_labels l run.0) (and_left (not (same_labels l run.0)) (differ (run ∷ runs)) h) in
    joined_other (l, s) run runs apart

one_run : (l : Labels) (s : ℤ × ℤ) (ss : List (ℤ × ℤ)) (runs : List Run)
    → runs_of (batch_in runs) ≡ runs → differ ((l, s ∷ ss) ∷ runs) ≡ true
    → runs_of (batch_in ((l, s ∷ ss) ∷ runs)) ≡ (l, s ∷ ss) ∷ runs
one_run l s [] runs so h = ap (joined (l, s)) so ∙ joined_before l s runs h
one_run l s (t ∷ ss) runs so h =
    ap (joined (l, s)) (one_run l t ss runs so (other_samples l (s ∷ t ∷ ss) (t ∷ ss) runs h))
    ∙ joined_same (l, s) (l, t ∷ ss) runs (same_self l)

first_run : (l : Labels) (ss : List (ℤ × ℤ)) (runs : List Run) → 0 < length ss
    → runs_of (batch_in runs) ≡ runs → differ ((l, ss) ∷ runs) ≡ true
    → runs_of (batch_in ((l, ss) ∷ runs)) ≡ (l, ss) ∷ runs
first_run l [] runs some so h = absurd (omega arith)
first_run l (s ∷ ss) runs some so h = one_run l s ss runs so h

differ_rest : (run : Run) (runs : List Run) → differ (run ∷ runs) ≡ true → differ runs ≡ true
differ_rest run [] h = refl
differ_rest run (next ∷ runs) h =
    and_right (not (same_labels run.0 next.0)) (differ (next ∷ runs)) h

pub runs_batch : (P : Run → Type 0) → ((run : Run) → P run → 0 < length run.1) → (runs : List Run)
    → AllByRecursion P runs → differ runs ≡ true → runs_of (batch_in runs) ≡ runs
runs_batch P filled [] all h = refl
runs_batch P filled (run ∷ runs) all h =
    first_run run.0 run.1 runs (filled run all.0)
    (runs_batch P filled runs all.1 (differ_rest run runs h)) h

-- the first run, and those after it

lead_same : (l : Labels) (y : Item) (ys : Batch) → same_labels l y.0 ≡ true
    → lead l (y ∷ ys) ≡ suc (lead l ys)
lead_same l y ys e = rw (same_turn y.0 l, e) refl

lead_other : (l : Labels) (y : Item) (ys : Batch) → same_labels l y.0 ≡ false
    → lead l (y ∷ ys) ≡ zero
lead_other l y ys e = rw (same_turn y.0 l, e) refl

-- the first run of a batch takes so many samples more
abbrev from_lead : Item → Batch → ℕ → List Run
from_lead x xs n = (x.0, x.1 ∷ values_in (take n xs)) ∷ runs_of (drop n xs)

pub runs_first : (x : Item) (xs : Batch) → runs_of (x ∷ xs) ≡ from_lead x xs (lead x.0 xs)
runs_first x [] = refl
runs_first x (y ∷ ys) =
    elim (cases_Bool (same_labels x.0 y.0)) [
      | inl t ↦
          let same = same_path x.0 y.0 t in
          let n = lead y.0 ys in
          let count : suc n ≡ lead x.0 (y ∷ ys) =
          sym (lead_same x.0 y ys t ∙ ap (λ (l : Labels). suc (lead l ys)) same) in
          ap (joined x) (runs_first y ys)
          ∙ (joined_same x (y.0, y.1 ∷ values_in (take n ys)) (runs_of (drop n ys)) t
          ∙ ap (from_lead x (y ∷ ys)) count)
      | inr f ↦
          ap (joined x) (runs_first y ys)
          ∙ (joined_other x (y.0, y.1 ∷ values_in (take (lead y.0 ys) ys)) (runs_of (drop (lead y.0 ys) ys)) f
          ∙ (ap (λ (runs : List Run). (x.0, x.1 ∷ []) ∷ runs) (sym (runs_first y ys))
          ∙ ap (from_lead x (y ∷ ys)) (sym (lead_other x.0 y ys f))))
    ]

pub lead_within : (l : Labels) (xs : Batch) → lead l xs ≤ length xs
lead_within l [] = omega arith
lead_within l (y ∷ ys) =
    elim (cases_Bool (same_labels l y.0)) [
      | inl t ↦ omega (arith, lead_same l y ys t, lead_within l ys)
      | inr f ↦ omega (arith, lead_other l y ys f)
    ]

joined_few : (x : Item) (runs : List Run) → length (joined x runs) ≤ suc (length runs)
joined_few x [] = omega arith
joined_few x (run ∷ runs) =
    elim (cases_Bool (same_labels x.0 run.0)) [
      | inl t ↦ omega (arith, ap length (joined_same x run runs t))
      | inr f ↦ omega (arith, ap length (joined_other x run runs f))
    ]

-- there are no more runs than samples
pub runs_few : (xs : Batch) → length (runs_of xs) ≤ length xs
runs_few [] = omega arith
runs_few (x ∷ xs) = omega (arith, joined_few x (runs_of xs), runs_few xs)

-- the elements up to one that a loop read
pub take_read : {X : Type 0} (xs : List X) (i : ℕ) (x : X) → i < length xs → x ≡ get_or xs i x
    → take (i + 1) xs ≡ take i xs ++ x ∷ []
take_read {X} xs i x lt read = take_more xs i x lt ∙ ap (λ (y : X). take i xs ++ y ∷ []) (sym read)

-- a loop that counts runs has counted one more
pub counts_more : (count all most n : ℕ) (rest others after : Batch) (first : Item)
    → rest ≡ first ∷ others → n ≡ lead first.0 others → n ≤ length others → after ≡ drop n others
    → count + length (runs_of rest) ≡ all → count + length rest ≤ most
    → (count + 1 + length (runs_of after) ≡ all) × (count + 1 + length after ≤ most)
counts_more count all most n rest others after first whole leads within left so_far few =
    let split : runs_of rest ≡ from_lead first others (lead first.0 others) =
    ap runs_of whole ∙ runs_first first others in
    let later : runs_of after ≡ runs_of (drop (lead first.0 others) others) =
    ap runs_of (left ∙ ap (λ (m : ℕ). drop m others) leads) in (
      omega (arith, so_far, ap length split, ap length later),
      omega (arith, few, ap length whole, ap length left, length-drop n others),
    )

-- the first run that a loop takes, and those after it
run_split : (n : ℕ) (rest others run after : Batch) (first : Item) → rest ≡ first ∷ others
    → n ≡ lead first.0 others → run ≡ take n others → after ≡ drop n others
    → runs_of rest ≡ (first.0, first.1 ∷ values_in run) ∷ runs_of after
run_split n rest others run after first is leads front left =
    let one : Run = (first.0, first.1 ∷ values_in run) in
    let same : from_lead first others (lead first.0 others) ≡ one ∷ runs_of after =
    ap (from_lead first others) (sym leads)
    ∙ (ap (λ (xs : Batch). (first.0, first.1 ∷ values_in xs) ∷ runs_of (drop n others)) (sym front)
    ∙ ap (λ (xs : Batch). one ∷ runs_of xs) (sym left)) in
    ap runs_of is ∙ (runs_first first others ∙ same)

pub runs_more : (P : Run → Type 0) (n : ℕ) (rest others run after : Batch) (first : Item)
    → rest ≡ first ∷ others → n ≡ lead first.0 others → run ≡ take n others → after ≡ drop n others
    → P (first.0, first.1 ∷ values_in run) → AllByRecursion P (runs_of after)
    → AllByRecursion P (runs_of rest)
runs_more P n rest others run after first is leads front left one all =
    subst (AllByRecursion P) (sym (run_split n rest others run after first is leads front left)) (one, all)

-- a loop that writes runs has written one more
pub writes_more : (out new whole : List ℕ) (n : ℕ) (rest others run after : Batch) (first : Item)
    → rest ≡ first ∷ others → n ≡ lead first.0 others → run ≡ take n others → after ≡ drop n others
    → new ≡ out ++ run_text (first.0, first.1 ∷ values_in run)
    → out ++ flat_map run_text (runs_of rest) ≡ whole
    → new ++ flat_map run_text (runs_of after) ≡ whole
writes_more out new whole n rest others run after first is leads front left wrote so_far =
    let one : Run = (first.0, first.1 ∷ values_in run) in
    let text : flat_map run_text (runs_of rest) ≡ run_text one ++ flat_map run_text (runs_of after) =
    ap (flat_map run_text) (run_split n rest others run after first is leads front left)
    ∙ flat_map-cons run_text one (runs_of after) in
    ap (λ (x : List ℕ). x ++ flat_map run_text (runs_of after)) wrote
    ∙ (append_assoc out (run_text one) (flat_map run_text (runs_of after))
    ∙ (ap (λ (x : List ℕ). out ++ x) (sym text) ∙ so_far))

-- the samples of a run, each with its label set
pub before_more : (l : Labels) (ss : List (ℤ × ℤ)) (s : ℤ × ℤ)
    → before l (ss ++ s ∷ []) [] ≡ before l ss [] ++ (l, s) ∷ []
before_more l [] s = refl
before_more l (t ∷ ss) s = ap (λ (xs : Batch). (l, t) ∷ xs) (before_more l ss s)

before_all : (l : Labels) (ss : List (ℤ × ℤ)) (xs : Batch) → before l ss xs ≡ before l ss [] ++ xs
before_all l [] xs = refl
before_all l (s ∷ ss) xs = ap (λ (ys : Batch). (l, s) ∷ ys) (before_all l ss xs)

pub batch_more : (runs : List Run) (run : Run)
    → batch_in (runs ++ run ∷ []) ≡ batch_in runs ++ before run.0 run.1 []
batch_more [] run = refl
batch_more (first ∷ runs) run =
    before_all first.0 first.1 (batch_in (runs ++ run ∷ []))
    ∙ (ap (λ (xs : Batch). before first.0 first.1 [] ++ xs) (batch_more runs run)
    ∙ (sym (append_assoc (before first.0 first.1 []) (batch_in runs) (before run.0 run.1 []))
    ∙ ap (λ (xs : Batch). xs ++ before run.0 run.1 []) (sym (before_all first.0 first.1 (batch_in runs)))))

-- the loop that looks at each row and the one before it

pub rows_go_on : (others : List Run) (i : ℕ) (last row : Run) (a b : Labels) (whole : Bool)
    → i < length others → row ≡ get_or others i row → a ≡ last.0 → b ≡ row.0
    → false ≡ same_labels a b → differ (last ∷ drop i others) ≡ whole
    → differ (row ∷ drop (i + 1) others) ≡ whole
rows_go_on others i last row a b whole lt read is_a is_b other so_far =
    let apart : same_labels last.0 row.0 ≡ false =
    sym (other ∙ (ap (λ (x : Labels). same_labels x b) is_a ∙ ap (same_labels last.0) is_b)) in
    let one : differ (last ∷ drop i others) ≡ differ (row ∷ drop (i + 1) others) =
    ap (λ (ys : List Run). differ (last ∷ ys)) (from_read others i row lt read)
    ∙ and_true (not (same_labels last.0 row.0)) (differ (row ∷ drop (i + 1) others))
    (ap not apart) in
    sym one ∙ so_far

pub rows_stop : (others : List Run) (i : ℕ) (last row : Run) (a b : Labels) (whole : Bool)
    → i < length others → row ≡ get_or others i row → a ≡ last.0 → b ≡ row.0
    → true ≡ same_labels a b → differ (last ∷ drop i others) ≡ whole → false ≡ whole
rows_stop others i last row a b whole lt read is_a is_b same so_far =
    let alike : same_labels last.0 row.0 ≡ true =
    sym (same ∙ (ap (λ (x : Labels). same_labels x b) is_a ∙ ap (same_labels last.0) is_b)) in
    let one : differ (last ∷ drop i others) ≡ false =
    ap (λ (ys : List Run). differ (last ∷ ys)) (from_read others i row lt read)
    ∙ and_false (not (same_labels last.0 row.0)) (differ (row ∷ drop (i + 1) others))
    (ap not alike) in
    sym one ∙ so_far

pub rows_end : (others : List Run) (i : ℕ) (last : Run) (whole : Bool) → length others ≤ i
    → differ (last ∷ drop i others) ≡ whole → true ≡ whole
rows_end others i last whole past so_far =
    let one : differ (last ∷ drop i others) ≡ true =
    ap (λ (ys : List Run). differ (last ∷ ys)) (drop_all i others past) in
    sym one ∙ so_far

-- the loop that looks for a row without a sample

filled_is : (row : Run) (samples : List (ℤ × ℤ)) (b : Bool) → samples ≡ row.1
    → b ≡ (length samples == 0) → is_filled row ≡ not b
filled_is row samples b is e =
    ap (λ (ss : List (ℤ × ℤ)). not (length ss == 0)) (sym is) ∙ ap not (sym e)

pub filled_go_on : (rows : List Run) (i : ℕ) (row : Run) (samples : List (ℤ × ℤ)) (b whole : Bool)
    → i < length rows → row ≡ get_or rows i row → samples ≡ row.1 → b ≡ (length samples == 0)
    → b ≡ false → list_all is_filled (drop i rows) ≡ whole
    → list_all is_filled (drop (i + 1) rows) ≡ whole
filled_go_on rows i row samples b whole lt read is e full so_far =
    let one : list_all is_filled (drop i rows) ≡ list_all is_filled (drop (i + 1) rows) =
    ap (list_all is_filled) (from_read rows i row lt read)
    ∙ and_true (is_filled row) (list_all is_filled (drop (i + 1) rows))
    (filled_is row samples b is e ∙ ap not full) in
    sym one ∙ so_far

pub filled_stop : (rows : List Run) (i : ℕ) (row : Run) (samples : List (ℤ × ℤ)) (b whole : Bool)
    → i < length rows → row ≡ get_or rows i row → samples ≡ row.1 → b ≡ (length samples == 0)
    → b ≡ true → list_all is_filled (drop i rows) ≡ whole → false ≡ whole
filled_stop rows i row samples b whole lt read is e bare so_far =
    let one : list_all is_filled (drop i rows) ≡ false =
    ap (list_all is_filled) (from_read rows i row lt read)
    ∙ and_false (is_filled row) (list_all is_filled (drop (i + 1) rows))
    (filled_is row samples b is e ∙ ap not bare) in
    sym one ∙ so_far

pub filled_end : (rows : List Run) (i : ℕ) (whole : Bool) → length rows ≤ i
    → list_all is_filled (drop i rows) ≡ whole → true ≡ whole
filled_end rows i whole past so_far =
    let one : list_all is_filled (drop i rows) ≡ true =
    ap (list_all is_filled) (drop_all i rows past) in
    sym one ∙ so_far

-- rows that are runs are those of the batch that they are

abbrev HasSample : Run → Type 0
HasSample run = 0 < length run.1

has_sample : (run : Run) → is_filled run ≡ true → HasSample run
has_sample run h = by_samples run.1 h
  where
    by_samples : (ss : List (ℤ × ℤ)) → not (length ss == 0) ≡ true → 0 < length ss
    by_samples [] g = absurd cc
    by_samples (s ∷ ss) g = omega arith

pub filled_at : (rows : List Run) (i : ℕ) (row : Run) → i < length rows → row ≡ get_or rows i row
    → list_all is_filled rows ≡ true → 0 < length row.1
filled_at [] i row lt read h = absurd (omega (arith, lt))
filled_at (r ∷ rows) zero row lt read h =
    subst HasSample (sym read) (has_sample r (and_left (is_filled r) (list_all is_filled rows) h))
filled_at (r ∷ rows) (suc i) row lt read h =
    filled_at rows i row (omega (arith, lt)) read
    (and_right (is_filled r) (list_all is_filled rows) h)

all_filled : (rows : List Run) → list_all is_filled rows ≡ true → AllByRecursion HasSample rows
all_filled [] h = tt
all_filled (r ∷ rows) h = (
  has_sample r (and_left (is_filled r) (list_all is_filled rows) h),
  all_filled rows (and_right (is_filled r) (list_all is_filled rows) h),
)

before_pairs : (l : Labels) (ss : List (ℤ × ℤ)) (xs : Batch)
    → before l ss xs ≡ pairs_with l ss ++ xs
before_pairs l [] xs = refl
before_pairs l (s ∷ ss) xs = ap (λ (ys : Batch). (l, s) ∷ ys) (before_pairs l ss xs)

pub batch_rows : (rows : List Run) → batch_in rows ≡ batch_of_rows rows
batch_rows [] = refl
batch_rows (r ∷ rows) =
    before_pairs r.0 r.1 (batch_in rows)
    ∙ ap (λ (xs : Batch). pairs_with r.0 r.1 ++ xs) (batch_rows rows)

pub rows_filled : (rows : List Run) → are_runs rows ≡ true → list_all is_filled rows ≡ true
rows_filled rows h = and_left (list_all is_filled rows) (differ rows) h

pub rows_runs : (rows : List Run) → are_runs rows ≡ true → runs_of (batch_of_rows rows) ≡ rows
rows_runs rows h =
    ap runs_of (sym (batch_rows rows))
    ∙ runs_batch HasSample (λ run f. f) rows (all_filled rows (rows_filled rows h))
    (and_right (list_all is_filled rows) (differ rows) h)
