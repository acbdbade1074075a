-- Batches as they are filled, row by row.
use Rattle.std.proofs.Common.{◌≡◌, ◌≤◌, ◌+◌, ◌-◌, ◌&&◌, ℕ, ℤ, Bool, true, false, List, [], ◌∷◌, ◌++◌, length, take, drop, refl, ap, sym, subst, ◌∙◌, arith, append_assoc, length-append}
use Rattle.std.specs.Prelude.{IsTrue, nat_le}
use Rattle.std.specs.List.{list_all}
use Rattle.std.proofs.lemmas.List.{append-nil, map-append, take-append-drop, length-map}
use Rattle.std.proofs.lemmas.List.Folds.{list_all-append}
use Rattle.std.proofs.lemmas.Bool.Decides.{nat_tests}
use Rattle.labels.specs.Labels.{Labels}
use Rattle.labels.specs.Rows.{Row}
use Rattle.head.specs.Batches.{is_batch}
use Rattle.head.specs.BatchRows.{batch_of_rows, pairs_with}
use Rattle.head.specs.Laws.{all_of}
use Rattle.head.specs.Worlds.{Batch}
use Rattle.remote_http.specs.Cutting.{are_timed, IsCutInto}
use Rattle.remote_http.specs.Filling.{AreBatches, batches_of, filled, HasRoom}

both : (a b : Bool) → a ≡ true → b ≡ true → IsTrue (a && b)
both a b p q = ap (λ c. c && b) p ∙ q

each : (a b : Bool) → IsTrue (a && b) → IsTrue a × IsTrue b
each true b h = (refl, h)
each false b h = let no : false ≡ true = h in absurd (cc)

few_is : (n : ℕ) → n ≤ 4096 → nat_le n 4096 ≡ true
few_is n h = grind (arith, nat_tests)

is_some_batch : (xs : Batch) → length xs ≤ 4096 → IsTrue (are_timed xs) → IsTrue (is_batch xs)
is_some_batch xs few timed = both (nat_le (length xs) 4096) (are_timed xs) (few_is (length xs) few) timed

pub timed_both : (xs ys : Batch) → IsTrue (are_timed xs) → IsTrue (are_timed ys) → IsTrue (are_timed (xs ++ ys))
timed_both xs ys p q = list_all-append _ xs ys ∙ both (are_timed xs) (are_timed ys) p q

pub timed_each : (xs ys : Batch) → IsTrue (are_timed (xs ++ ys)) → IsTrue (are_timed xs) × IsTrue (are_timed ys)
timed_each xs ys h = each (are_timed xs) (are_timed ys) (sym (list_all-append _ xs ys) ∙ h)

pub room_is_batch : (rows : List Row) (room : ℕ) → HasRoom rows room → IsTrue (is_batch (batch_of_rows rows))
room_is_batch rows room h = let counted = h.counted in is_some_batch (batch_of_rows rows) (omega arith) h.timed

pub batch_more : (rows : List Row) (row : Row)
    → batch_of_rows (rows ++ row ∷ []) ≡ batch_of_rows rows ++ pairs_with row.0 row.1
batch_more [] row = append-nil (pairs_with row.0 row.1)
batch_more (r ∷ rows) row =
    ap (λ (xs : Batch). pairs_with r.0 r.1 ++ xs) (batch_more rows row)
    ∙ sym (append_assoc (pairs_with r.0 r.1) (batch_of_rows rows) (pairs_with row.0 row.1))

pub batch_append : (xs ys : List Row) → batch_of_rows (xs ++ ys) ≡ batch_of_rows xs ++ batch_of_rows ys
batch_append [] ys = refl
batch_append (r ∷ xs) ys =
    ap (λ (zs : Batch). pairs_with r.0 r.1 ++ zs) (batch_append xs ys)
    ∙ sym (append_assoc (pairs_with r.0 r.1) (batch_of_rows xs) (batch_of_rows ys))

all_append : (xs ys : List Batch) → all_of (xs ++ ys) ≡ all_of xs ++ all_of ys
all_append [] ys = refl
all_append (x ∷ xs) ys =
    ap (λ (zs : Batch). x ++ zs) (all_append xs ys) ∙ sym (append_assoc x (all_of xs) (all_of ys))

all_more : (parts : List (List Row)) (rows : List Row)
    → all_of (batches_of (parts ++ rows ∷ [])) ≡ all_of (batches_of parts) ++ batch_of_rows rows
all_more parts rows =
    ap all_of (map-append batch_of_rows parts (rows ∷ []))
    ∙ all_append (batches_of parts) (batch_of_rows rows ∷ [])
    ∙ ap (λ (xs : Batch). all_of (batches_of parts) ++ xs) (append-nil (batch_of_rows rows))

pub length-pairs : (l : Labels) (samples : List (ℤ × ℤ)) → length (pairs_with l samples) ≡ length samples
length-pairs l samples = length-map samples _

-- a row in a batch with room for it
pub row_fits : (rows new : List Row) (room : ℕ) (row : Row) → new ≡ rows ++ row ∷ [] → HasRoom rows room
    → length row.1 ≤ room → IsTrue (are_timed (pairs_with row.0 row.1)) → HasRoom new (room - length row.1)
row_fits rows new room row e h short timed =
    let is : batch_of_rows new ≡ batch_of_rows rows ++ pairs_with row.0 row.1 = ap batch_of_rows e ∙ batch_more rows row in
    let size : length (batch_of_rows new) ≡ length (batch_of_rows rows) + length row.1 =
    ap length is ∙ length-append (batch_of_rows rows) (pairs_with row.0 row.1)
    ∙ ap (λ (n : ℕ). length (batch_of_rows rows) + n) (length-pairs row.0 row.1) in
    let counted = h.counted in
    record {
      timed =
          subst (λ (xs : Batch). IsTrue (are_timed xs)) (sym is)
          (timed_both (batch_of_rows rows) (pairs_with row.0 row.1) h.timed timed);
      counted = omega arith;
    }

no_rows : HasRoom [] 4096
no_rows = record { timed = refl; counted = refl }

-- a row that begins a batch
pub row_begins : (rows new : List Row) (row : Row) → rows ≡ [] → new ≡ rows ++ row ∷ []
    → length row.1 ≤ 4096 → IsTrue (are_timed (pairs_with row.0 row.1)) → HasRoom new (4096 - length row.1)
row_begins rows new row none e short timed =
    row_fits [] new 4096 row (e ∙ ap (λ (rs : List Row). rs ++ row ∷ []) none) no_rows short timed

pub filled_more : (parts parts' : List (List Row)) (rows new : List Row) (row : Row) → parts' ≡ parts
    → new ≡ rows ++ row ∷ [] → filled parts' new ≡ filled parts rows ++ pairs_with row.0 row.1
filled_more parts parts' rows new row same e =
    ap (λ (ps : List (List Row)). filled ps new) same
    ∙ ap (λ (xs : Batch). all_of (batches_of parts) ++ xs) (ap batch_of_rows e ∙ batch_more rows row)
    ∙ sym (append_assoc (all_of (batches_of parts)) (batch_of_rows rows) (pairs_with row.0 row.1))

pub filled_anew : (parts parts' : List (List Row)) (rows none new : List Row) (row : Row)
    → parts' ≡ parts ++ rows ∷ [] → none ≡ [] → new ≡ none ++ row ∷ []
    → filled parts' new ≡ filled parts rows ++ pairs_with row.0 row.1
filled_anew parts parts' rows none new row more empty e =
    filled_more parts' parts' none new row refl e
    ∙ ap (λ (xs : Batch). xs ++ pairs_with row.0 row.1)
    (ap (λ (rs : List Row). filled parts' rs) empty
    ∙ append-nil (all_of (batches_of parts'))
    ∙ ap (λ (ps : List (List Row)). all_of (batches_of ps)) more
    ∙ all_more parts rows)

pub batches_more : (parts parts' : List (List Row)) (rows : List Row) → parts' ≡ parts ++ rows ∷ []
    → AreBatches parts → IsTrue (is_batch (batch_of_rows rows)) → AreBatches parts'
batches_more parts parts' rows more are is =
    ap (λ (ps : List (List Row)). list_all is_batch (batches_of ps)) more
    ∙ ap (list_all is_batch) (map-append batch_of_rows parts (rows ∷ []))
    ∙ list_all-append is_batch (batches_of parts) (batch_of_rows rows ∷ [])
    ∙ both (list_all is_batch (batches_of parts)) (list_all is_batch (batch_of_rows rows ∷ [])) are
    (both (is_batch (batch_of_rows rows)) true is refl)

-- samples that are cut in two
pub pairs_cut : (l : Labels) (n : ℕ) (samples first later : List (ℤ × ℤ)) → first ≡ take n samples
    → later ≡ drop n samples → pairs_with l first ++ pairs_with l later ≡ pairs_with l samples
pairs_cut l n samples first later f g =
    sym (map-append _ first later)
    ∙ ap (pairs_with l) (ap (λ (xs : List (ℤ × ℤ)). xs ++ later) f ∙ ap (λ (xs : List (ℤ × ℤ)). take n samples ++ xs) g
    ∙ take-append-drop n samples)

pub timed_cut : (l : Labels) (n : ℕ) (samples first later : List (ℤ × ℤ)) → first ≡ take n samples
    → later ≡ drop n samples → IsTrue (are_timed (pairs_with l samples))
    → IsTrue (are_timed (pairs_with l first)) × IsTrue (are_timed (pairs_with l later))
timed_cut l n samples first later f g timed =
    timed_each (pairs_with l first) (pairs_with l later)
    (subst (λ (xs : Batch). IsTrue (are_timed xs)) (sym (pairs_cut l n samples first later f g)) timed)

-- a row among others
pub timed_row : (all front back : List Row) (row : Row) → all ≡ front ++ row ∷ back
    → IsTrue (are_timed (batch_of_rows all)) → IsTrue (are_timed (pairs_with row.0 row.1))
timed_row all front back row e timed =
    let is : batch_of_rows all ≡ batch_of_rows front ++ batch_of_rows (row ∷ back) =
    ap batch_of_rows e ∙ batch_append front (row ∷ back) in
    let both_timed = subst (λ (xs : Batch). IsTrue (are_timed xs)) is timed in
    let later = timed_each (batch_of_rows front) (batch_of_rows (row ∷ back)) both_timed in
    let first = timed_each (pairs_with row.0 row.1) (batch_of_rows back) later.1 in
    first.0

-- the parts, where nothing is being filled
pub cut_whole : (all : List Row) (parts : List (List Row)) (rows : List Row) → rows ≡ []
    → filled parts rows ≡ batch_of_rows all → AreBatches parts → IsCutInto (batch_of_rows all) (batches_of parts)
cut_whole all parts rows none e are = record {
  whole = sym (append-nil (all_of (batches_of parts))) ∙ ap (λ (rs : List Row). filled parts rs) (sym none) ∙ e;
  each = are;
}

-- the same, with what was being filled behind them
pub cut_last : (all : List Row) (parts parts' : List (List Row)) (rows : List Row) (room : ℕ)
    → parts' ≡ parts ++ rows ∷ [] → HasRoom rows room → filled parts rows ≡ batch_of_rows all → AreBatches parts
    → IsCutInto (batch_of_rows all) (batches_of parts')
cut_last all parts parts' rows room more h e are = record {
  whole = ap (λ (ps : List (List Row)). all_of (batches_of ps)) more ∙ all_more parts rows ∙ e;
  each = batches_more parts parts' rows more are (room_is_batch rows room h);
}

pub nothing_left : {A : Type 0} (xs : List A) → length xs ≡ 0 → xs ≡ []
nothing_left [] e = refl
nothing_left (x ∷ xs) e = absurd (omega arith)

pub first_timed : (l : Labels) (n : ℕ) (row : Row) (samples first later : List (ℤ × ℤ)) → row ≡ (l, first)
    → first ≡ take n samples → later ≡ drop n samples → IsTrue (are_timed (pairs_with l samples))
    → IsTrue (are_timed (pairs_with row.0 row.1))
first_timed l n row samples first later e f g timed =
    let both_timed = timed_cut l n samples first later f g timed in
    subst (λ (r : Row). IsTrue (are_timed (pairs_with r.0 r.1))) (sym e) both_timed.0

pub later_timed : (l : Labels) (n : ℕ) (samples first later : List (ℤ × ℤ)) → first ≡ take n samples
    → later ≡ drop n samples → IsTrue (are_timed (pairs_with l samples)) → IsTrue (are_timed (pairs_with l later))
later_timed l n samples first later f g timed =
    let both_timed = timed_cut l n samples first later f g timed in both_timed.1

pub filled_cut : (new old : Batch) (l : Labels) (n : ℕ) (row : Row) (samples first later : List (ℤ × ℤ)) → row ≡ (l, first)
    → first ≡ take n samples → later ≡ drop n samples → new ≡ old ++ pairs_with row.0 row.1
    → new ++ pairs_with l later ≡ old ++ pairs_with l samples
filled_cut new old l n row samples first later e f g filled =
    ap (λ (xs : Batch). xs ++ pairs_with l later) (filled ∙ ap (λ (r : Row). old ++ pairs_with r.0 r.1) e)
    ∙ append_assoc old (pairs_with l first) (pairs_with l later)
    ∙ ap (λ (xs : Batch). old ++ xs) (pairs_cut l n samples first later f g)
