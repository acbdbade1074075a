-- What a body asks is fit for a store.
use Rattle.std.proofs.Common.{◌≡◌, ℕ, ℤ, Bool, true, false, List, [], ◌∷◌, ◌++◌, map, Option, None}
use Rattle.std.proofs.Common.{Some, option_map, Result, Ok, Err, IfOk, refl, ap, codes, pos, negsuc}
use Rattle.std.specs.Prelude.{option_and_then, if◌then◌else◌, int_lt, not, ◌==◌}
use Rattle.std.specs.List.{list_all}
use Rattle.std.proofs.lemmas.Bool.{and_parts}
use Rattle.labels.specs.Contents.{is_time}
use Rattle.labels.specs.Labels.{Labels}
use Rattle.labels.specs.Rows.{Row}
use Rattle.matchers.specs.Queries.{is_query_range}
use Rattle.serde_json.specs.Data.{Data, Items, no_items, item}
use Rattle.serde_json.specs.Find.{get, at, as_array}
use Rattle.serde_json.specs.Events.{items_len}
use Rattle.requests.specs.declared.request.Request.{Request}
use Rattle.requests.specs.declared.request.Request.TheVariants.{Select, Write, Delete, Cut}
use Rattle.requests.specs.declared.request.ReadError.{ReadError}
use Rattle.requests.specs.declared.target.Path.{Path}
use Rattle.requests.specs.declared.target.Path.TheVariants as to_path
use Rattle.requests.specs.Times.{if_time}
use Rattle.requests.specs.Json.{json_of, has_members, integer_in, time_in, time_at, text_at}
use Rattle.requests.specs.QueryStrings.{asked_between}
use Rattle.requests.specs.Changes.{cut_in, cut_of, deletion_in, deletion_of}
use Rattle.requests.specs.Rows.{WrittenRow, labels_at, samples_at, sample_in, samples_in, pair_in}
use Rattle.requests.specs.Rows.{time_item, integer_item, is_labelled, row_with, row_in, rows_in}
use Rattle.requests.specs.Rows.{AreRowsOf, batch_of}
use Rattle.requests.specs.Requests.{Meaning, Told}
use Rattle.requests.specs.Selecting.{SelectMeans}
use Rattle.requests.specs.Writing.{IsWritten}
use Rattle.requests.specs.Reading.{BodyMeans}
use Rattle.requests.specs.Fitting.{are_timed, IsFit}

some_from : {A B : Type 0} (f : A → Option B) (o : Option A) (x : B) → option_and_then f o ≡ Some x
    → (y : A) × (o ≡ Some y) × (f y ≡ Some x)
some_from f None x e = absurd (cc)
some_from f (Some y) x e = (y, refl, e)

if_some : {A : Type 0} (b : Bool) (o : Option A) (x : A) → (if b then o else None) ≡ Some x → o
    ≡ Some x
if_some true o x e = e
if_some false o x e = absurd (cc)

timed_at : (z t : ℤ) (b : Bool) → is_time z ≡ b → (if b then Some z else None) ≡ Some t → is_time t
    ≡ true
timed_at z t true e is = let same : z ≡ t = cc in rw (← same, e)
timed_at z t false e is = absurd (cc)

timed : (z t : ℤ) → if_time z ≡ Some t → is_time t ≡ true
timed z t e = timed_at z t (is_time z) refl e

time_in_timed : (d : Data) (t : ℤ) → time_in d ≡ Some t → is_time t ≡ true
time_in_timed d t e = let found = some_from if_time (integer_in d) t e in timed found.0 t found.2

time_at_timed : (name : List ℕ) (d : Data) (t : ℤ) → time_at name d ≡ Some t → is_time t ≡ true
time_at_timed name d t e = let found = some_from time_in (get name d) t e
    in time_in_timed found.0 t found.2

pub cut_timed : (body : List ℕ) (t : ℤ) → cut_of body ≡ Some t → is_time t ≡ true
cut_timed body t e =
    let found = some_from cut_in (json_of body) t e in
    time_at_timed (codes "at") found.0 t (if_some (has_members 1 found.0)
    (time_at (codes "at") found.0) t found.2)

-- from two times, the first not above the second
range_from : (a b : ℤ) → is_time a ≡ true → is_time b ≡ true → int_lt b a ≡ false
    → is_query_range a b ≡ true
range_from a b first last order =
    let low = and_parts (not (int_lt a (negsuc 4611686018427387903))) (not
    (int_lt (pos 4611686018427387903) a)) first in
    let high = and_parts (not (int_lt b (negsuc 4611686018427387903))) (not
    (int_lt (pos 4611686018427387903) b)) last in
    rw (low.0, order, high.1)

between_parts : (text : List ℕ) (a b : ℤ) (under : Bool) (form : List ℕ × ℤ × ℤ) → int_lt b a
    ≡ under
    → (if under then None else Some (text, a, b)) ≡ Some form → (int_lt b a ≡ false)
    × ((text, a, b) ≡ form)
between_parts text a b true form e is = absurd (cc)
between_parts text a b false form e is = (e, cc)

pub deletion_range : (body : List ℕ) (form : List ℕ × ℤ × ℤ) → deletion_of body ≡ Some form
    → is_query_range form.1 form.2 ≡ true
deletion_range body form e =
    let found = some_from deletion_in (json_of body) form e in
    let d = found.0 in
    let inside = if_some (has_members 3 d)
    (option_and_then (λ text. option_and_then (λ from. option_and_then
    (λ to. asked_between text from to)
    (time_at (codes "to") d)) (time_at (codes "from") d)) (text_at (codes "selector") d)) form
    found.2 in
    let t = some_from (λ (text : List ℕ). option_and_then (λ from. option_and_then
    (λ to. asked_between text from to)
    (time_at (codes "to") d)) (time_at (codes "from") d)) (text_at (codes "selector") d) form inside
    in
    let a = some_from (λ (from : ℤ). option_and_then (λ to. asked_between t.0 from to)
    (time_at (codes "to") d)) (time_at (codes "from") d) form t.2 in
    let b = some_from (λ (to : ℤ). asked_between t.0 a.0 to) (time_at (codes "to") d) form a.2 in
    let parts = between_parts t.0 a.0 b.0 (int_lt b.0 a.0) form refl b.2 in
    rw (← parts.1) (range_from a.0 b.0 (time_at_timed (codes "from") d a.0 a.1)
    (time_at_timed (codes "to") d b.0 b.1) parts.0)

cons_step : {A : Type 0} (o : Option A) (rest : Option (List A)) (all : List A)
    → option_and_then (λ x. option_map (λ xs. x ∷ xs) rest) o ≡ Some all
    → (x : A) × (xs : List A) × (o ≡ Some x) × (rest ≡ Some xs) × (x ∷ xs ≡ all)
cons_step None rest all e = absurd (cc)
cons_step (Some x) None all e = absurd (cc)
cons_step (Some x) (Some xs) all e = (x, xs, refl, refl, cc)

first_is : (t : ℤ) (o : Option ℤ) (s : ℤ × ℤ) → option_map {U = ℤ × ℤ} (λ v. (t, v)) o ≡ Some s → t
    ≡ s.0
first_is t None s e = absurd (cc)
first_is t (Some v) s e = let same : (t, v) ≡ s = cc in ap (λ (p : ℤ × ℤ). p.0) same

second_is : (pairs : List (List ℕ × List ℕ)) (o : Option (List (ℤ × ℤ))) (row : WrittenRow)
    → option_map {U = WrittenRow} (λ samples. (pairs, samples)) o ≡ Some row → o ≡ Some row.1
second_is pairs None row e = absurd (cc)
second_is pairs (Some samples) row e = let same : (pairs, samples) ≡ row = cc
    in ap (λ (p : WrittenRow). Some p.1) same

abbrev AreTimed : List (ℤ × ℤ) → Type 0
AreTimed samples = list_all (λ (s : ℤ × ℤ). is_time s.0) samples ≡ true

abbrev AreAllTimed : List WrittenRow → Type 0
AreAllTimed [] = Unit {0}
AreAllTimed (row ∷ rows) = AreTimed row.1 × AreAllTimed rows

sample_timed : (d : Data) (s : ℤ × ℤ) → sample_in d ≡ Some s → is_time s.0 ≡ true
sample_timed d s e =
    let found = some_from (λ (ds : Items). if items_len ds == 2 then pair_in d else None)
    (as_array d) s e in
    let inside = if_some (items_len found.0 == 2) (pair_in d) s found.2 in
    let t = some_from (λ (t : ℤ). option_map {U = ℤ × ℤ} (λ v. (t, v)) (integer_item 1 d))
    (time_item 0 d) s inside in
    let first = some_from time_in (at 0 d) t.0 t.1 in
    rw (← first_is t.0 (integer_item 1 d) s t.2) (time_in_timed first.0 t.0 first.2)

samples_timed : (ds : Items) (samples : List (ℤ × ℤ)) → samples_in ds ≡ Some samples
    → AreTimed samples
samples_timed no_items samples e = let same : [] ≡ samples = cc in rw (← same)
samples_timed (item d ds) samples e =
    let step = cons_step (sample_in d) (samples_in ds) samples e in
    rw (← step.4, sample_timed d step.0 step.2, samples_timed ds step.1 step.3)

row_timed : (d : Data) (row : WrittenRow) → row_in d ≡ Some row → AreTimed row.1
row_timed d row e =
    let inside = if_some (has_members 2 d) (option_and_then (row_with d) (labels_at d)) row e in
    let pairs = some_from (row_with d) (labels_at d) row inside in
    let whole = if_some (is_labelled pairs.0) (option_map {U = WrittenRow}
    (λ samples. (pairs.0, samples)) (samples_at d)) row pairs.2 in
    let samples = some_from samples_in (option_and_then as_array (get (codes "samples") d)) row.1
    (second_is pairs.0 (samples_at d) row whole) in
    samples_timed samples.0 row.1 samples.2

rows_timed : (ds : Items) (written : List WrittenRow) → rows_in ds ≡ Some written
    → AreAllTimed written
rows_timed no_items written e = let same : [] ≡ written = cc in rw (← same) tt
rows_timed (item d ds) written e =
    let step = cons_step (row_in d) (rows_in ds) written e in
    rw (← step.4) (row_timed d step.0 step.2, rows_timed ds step.1 step.3)

map_timed : (labels : Labels) (samples : List (ℤ × ℤ)) (more : List (Labels × (ℤ × ℤ)))
    → AreTimed samples → are_timed more ≡ true
    → are_timed (map (λ (s : ℤ × ℤ). (labels, s)) samples ++ more) ≡ true
map_timed labels [] more p q = q
map_timed labels (s ∷ samples) more p q =
    let parts = and_parts (is_time s.0) (list_all (λ (s : ℤ × ℤ). is_time s.0) samples) p in
    rw (parts.0, map_timed labels samples more parts.1 q)

batch_timed : (written : List WrittenRow) (rows : List Row) → AreRowsOf written rows
    → AreAllTimed written
    → are_timed (batch_of rows) ≡ true
batch_timed [] [] p q = refl
batch_timed [] (r ∷ rs) p q = absurd p
batch_timed (w ∷ ws) [] p q = absurd p
batch_timed (w ∷ ws) (r ∷ rs) p q = map_timed r.0 r.1 (batch_of rs) (rw p.0.samples q.0)
    (batch_timed ws rs p.1 q.1)

written_timed : (body : List ℕ) (rows : List Row) → IsWritten body rows → are_timed (batch_of rows)
    ≡ true
written_timed body rows p =
    let found = some_from rows_in (option_and_then as_array (json_of body)) p.written p.spelled in
    batch_timed p.written rows p.each (rows_timed found.0 p.written found.2)

pub select_fit : (query : List ℕ) (request : Request) → SelectMeans query (Ok request)
    → IsFit request
select_fit query (Select asked) p = tt
select_fit query (Write batch) p = absurd p
select_fit query (Delete matchers from to) p = absurd p
select_fit query (Cut t) p = absurd p

pub body_fit : (asked : Path) (body : List ℕ) (request : Request) → BodyMeans asked body
    (Ok request) → IsFit request
body_fit to_path.Select body request p = absurd (cc)
body_fit to_path.Write body (Select asked) p = absurd p
body_fit to_path.Write body (Write rows) p = (p.1, written_timed body rows.items p.0)
body_fit to_path.Write body (Delete matchers from to) p = absurd p
body_fit to_path.Write body (Cut t) p = absurd p
body_fit to_path.Delete body (Select asked) p = absurd p
body_fit to_path.Delete body (Write batch) p = absurd p
body_fit to_path.Delete body (Delete matchers from to) p = rw (p.3, p.4)
    (deletion_range body p.0 p.1, p.2.few)
body_fit to_path.Delete body (Cut t) p = absurd p
body_fit to_path.Cut body (Select asked) p = absurd p
body_fit to_path.Cut body (Write batch) p = absurd p
body_fit to_path.Cut body (Delete matchers from to) p = absurd p
body_fit to_path.Cut body (Cut t) p = cut_timed body t p

pub told_fit : (P : Meaning → Type 0) → ((request : Request) → P (Ok request) → IsFit request)
    → (r : Result Request ReadError) → Told P r → IfOk r IsFit
told_fit P f (Ok request) p = f request p
told_fit P f (Err e) p = tt
