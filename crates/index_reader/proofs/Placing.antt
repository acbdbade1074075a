-- Where the labels of the series stand, one series after another.
use Rattle.std.proofs.Common.{◌≡◌, ℕ, zero, suc, ◌+◌, ◌<◌, ◌≤◌, Bool, true, false, cond, List, []}
use Rattle.std.proofs.Common.{◌∷◌, ◌++◌, length, drop, Option, Some, None, Result, Ok, Err, refl}
use Rattle.std.proofs.Common.{sym, ap, ◌∙◌, append_assoc, arith}
use Rattle.std.specs.Prelude.{slice_get, map, nat_lt}
use Rattle.std.specs.List.{AllByRecursion, list_all}
use Rattle.std.specs.Borrow.{Bor}
use Rattle.std.proofs.lemmas.List.{append-nil, drop_all}
use Rattle.index_reader.specs.declared.error.IndexError.{IndexError}
use Rattle.index_reader.specs.declared.error.IndexError.TheVariants.{Memory}
use Rattle.index_reader.specs.Outcome.{Fails}
use Rattle.index_reader.specs.Reading.Steps.{each, behind_items}
use Rattle.wire.specs.Outcome.{◌>>=◌}
use Rattle.index_reader.specs.Layout.{Label}
use Rattle.index_reader.specs.References.{references_in}
use Rattle.index_reader.specs.Reading.Carried.{Carried}
use Rattle.index_reader.specs.Seen.{references_in_each, bytes_of}
use Rattle.index_reader.specs.Lookups.{index_of, next, place_of}
use Rattle.index_reader.specs.Reading.Agreement.{are_used, or_disagree, list_of_label, Carrier}
use Rattle.index_reader.specs.Reading.Agreement.{lists_of_series, each_all, carriers}
use Rattle.index_reader.proofs.Eaches.{drop_at_place}
use Rattle.wire.proofs.Steps.{bind_ok}
use Rattle.index_reader.proofs.Walks.{ok_is}

grouped : {X : Type 0} (front xs : List X) (read : Result (List X) IndexError)
    → behind_items front (read >>= λ ys. Ok (xs ++ ys)) ≡ behind_items (front ++ xs) read
grouped front xs (Ok ys) = ap (λ zs. Ok zs) (sym (append_assoc front xs ys))
grouped front xs (Err e) = refl

all_on : {A X : Type 0} (step : A → Result (List X) IndexError) (as' : List A) (i : ℕ) (a : A)
    (xs front : List X) (total : Result (List X) IndexError) → slice_get as' i ≡ Some a
    → step a ≡ Ok xs
    → behind_items front (each_all step (drop i as')) ≡ total
    → behind_items (front ++ xs) (each_all step (drop (i + 1) as')) ≡ total
unfolding each_all
all_on step as' i a xs front total g h so_far =
    let f : i + 1 ≡ suc i = omega arith in
    let one : behind_items front (each_all step (drop i as'))
    ≡ behind_items (front ++ xs) (each_all step (drop (suc i) as')) =
    rw (drop_at_place as' i a g, h) (grouped front xs (each_all step (drop (suc i) as'))) in
    rw f (sym one ∙ so_far)

fails_in : {A X : Type 0} (e : IndexError) (read : Result A IndexError)
    (more : A → Result (List X) IndexError) (front : List X) (total : Result (List X) IndexError)
    → Fails e read → behind_items front (read >>= more) ≡ total → Fails e total
fails_in Memory read more front total f h = tt
fails_in e read more front total f h = sym (rw f at h)

all_fails : {A X : Type 0} (step : A → Result (List X) IndexError) (e : IndexError) (as' : List A)
    (i : ℕ) (a : A) (front : List X) (total : Result (List X) IndexError) → slice_get as' i ≡ Some a
    → Fails e (step a)
    → behind_items front (each_all step (drop i as')) ≡ total → Fails e total
unfolding each_all
all_fails step e as' i a front total g f so_far =
    fails_in e (step a) (λ xs. each_all step (drop (suc i) as') >>= λ ys. Ok (xs ++ ys)) front total
    f (rw (drop_at_place as' i a g) at so_far)

pub all_done : {A X : Type 0} (step : A → Result (List X) IndexError) (as' : List A) (i : ℕ)
    (front : List X) (total : Result (List X) IndexError) → length as' ≤ i
    → behind_items front (each_all step (drop i as')) ≡ total → total ≡ Ok front
unfolding each_all
all_done step as' i front total le so_far =
    sym so_far ∙ rw (drop_all i as' le) (ap (λ ys. Ok ys) (append-nil front))

-- ---- one series

items_ok : {X : Type 0} (front new : List X) (read : Result (List X) IndexError)
    → behind_items front read ≡ Ok new → (xs : List X) × (read ≡ Ok xs) × (new ≡ front ++ xs)
items_ok front new (Ok xs) h = (xs, refl, cc)
items_ok front new (Err e) h = absurd cc

items_fail : {X : Type 0} (e : IndexError) (front : List X) (read : Result (List X) IndexError)
    → Fails e (behind_items front read) → Fails e read
items_fail Memory front read f = tt
items_fail e front (Ok xs) f = absurd cc
items_fail e front (Err g) f = cc

placed_with : (keys : List Label) (ss : List Carrier) (i r : ℕ) (ls : List Label)
    (front mid new xs : List Carried) (total : Result (List Carried) IndexError)
    → slice_get ss i ≡ Some (r, ls) → mid ≡ front ++ (0, r) ∷ []
    → each (list_of_label keys r) ls ≡ Ok xs → new ≡ mid ++ xs
    → behind_items front (each_all (lists_of_series keys) (drop i ss)) ≡ total
    → behind_items new (each_all (lists_of_series keys) (drop (i + 1) ss)) ≡ total
unfolding lists_of_series
placed_with keys ss i r ls front mid new xs total g e read grown so_far =
    let s : Carrier = (r, ls) in
    let first : Carried = (0, r) in
    let step : lists_of_series keys s ≡ Ok (first ∷ xs) = rw read refl in
    let n : new ≡ front ++ (first ∷ xs) =
    grown ∙ ap (λ (m : List Carried). m ++ xs) e ∙ append_assoc front (first ∷ []) xs in
    ap (λ (f : List Carried). behind_items f (each_all (lists_of_series keys) (drop (i + 1) ss))) n
    ∙ all_on (lists_of_series keys) ss i s (first ∷ xs) front total g step so_far

pub placed_on : (keys : List Label) (ss : List Carrier) (i r : ℕ) (ls : List Label)
    (front mid new : List Carried) (total : Result (List Carried) IndexError)
    → slice_get ss i ≡ Some (r, ls) → mid ≡ front ++ (0, r) ∷ []
    → behind_items mid (each (list_of_label keys r) ls) ≡ Ok new
    → behind_items front (each_all (lists_of_series keys) (drop i ss)) ≡ total
    → behind_items new (each_all (lists_of_series keys) (drop (i + 1) ss)) ≡ total
placed_on keys ss i r ls front mid new total g e read so_far =
    let p = items_ok mid new (each (list_of_label keys r) ls) read in
    placed_with keys ss i r ls front mid new p.0 total g e p.1 p.2 so_far

labels_fail : (e : IndexError) (keys : List Label) (r : ℕ) (ls : List Label)
    → Fails e (each (list_of_label keys r) ls) → Fails e (lists_of_series keys (r, ls))
unfolding lists_of_series
labels_fail Memory keys r ls f = tt
labels_fail e keys r ls f = rw f refl

pub placed_fails : (e : IndexError) (keys : List Label) (ss : List Carrier) (i r : ℕ)
    (ls : List Label) (front mid : List Carried) (total : Result (List Carried) IndexError)
    → slice_get ss i ≡ Some (r, ls) → Fails e (behind_items mid (each (list_of_label keys r) ls))
    → behind_items front (each_all (lists_of_series keys) (drop i ss)) ≡ total → Fails e total
placed_fails e keys ss i r ls front mid total g f so_far =
    let s : Carrier = (r, ls) in
    all_fails (lists_of_series keys) e ss i s front total g
    (labels_fail e keys r ls (items_fail e mid (each (list_of_label keys r) ls) f)) so_far

-- ---- references with label sets

pub tied_at : (rs : List ℕ) (ls : List (List Label)) (i r : ℕ) (l : List Label)
    → slice_get rs i ≡ Some r → slice_get ls i ≡ Some l → slice_get (carriers rs ls) i ≡ Some (r, l)
unfolding carriers
tied_at [] ls i r l g h = absurd cc
tied_at (x ∷ rs) [] i r l g h = absurd cc
tied_at (x ∷ rs) (y ∷ ls) zero r l g h =
    let a : x ≡ r = cc in
    let b : y ≡ l = cc in
    rw (a, b) refl
tied_at (x ∷ rs) (y ∷ ls) (suc i) r l g h = tied_at rs ls i r l g h

pub length-tied : (rs : List ℕ) (ls : List (List Label)) → length (carriers rs ls) ≤ length ls
unfolding carriers
length-tied [] ls = omega arith
length-tied (x ∷ rs) [] = omega arith
length-tied (x ∷ rs) (y ∷ ls) = omega (arith, length-tied rs ls)

pub mapped_at : {X Y : Type 0} (f : X → Y) (xs : List X) (i : ℕ) (x : X) → slice_get xs i ≡ Some x
    → slice_get (map f xs) i ≡ Some (f x)
mapped_at f [] i x g = absurd cc
mapped_at f (y ∷ xs) zero x g = let e : y ≡ x = cc in rw e refl
mapped_at f (y ∷ xs) (suc i) x g = mapped_at f xs i x g

-- ---- places are those of lists

abbrev pub InLists : ℕ → List Carried → Type 0
InLists n cs = AllByRecursion (λ c. c.0 < n) cs

inside_next : (n : ℕ) (o : Option ℕ) (m : ℕ) → next o ≡ Some m
    → ((k : ℕ) → o ≡ Some k → k < n) → m < suc n
inside_next n None m h f = absurd cc
inside_next n (Some k) m h f = let e : suc k ≡ m = cc in omega (arith, e, f k refl)

chosen_inside : (b : Bool) (n : ℕ) (o : Option ℕ) (m : ℕ) → cond b (Some 0) (next o) ≡ Some m
    → ((k : ℕ) → o ≡ Some k → k < n) → m < suc n
chosen_inside true n o m h f = let e : 0 ≡ m = cc in omega (arith, e)
chosen_inside false n o m h f = inside_next n o m h f

index_inside : {X : Type 0} (test : X → Bool) (xs : List X) (m : ℕ)
    → index_of test xs ≡ Some m → m < length xs
unfolding index_of
index_inside test [] m h = absurd cc
index_inside test (x ∷ xs) m h =
    chosen_inside (test x) (length xs) (index_of test xs) m h (λ k e. index_inside test xs k e)

agreed_ok : {A : Type 0} (o : Option A) (x : A) → or_disagree o ≡ Ok x → o ≡ Some x
agreed_ok (Some y) x h = cc
agreed_ok None x h = absurd cc

place_inside : (keys : List Label) (r : ℕ) (l : Label) (c : Carried) → list_of_label keys r l ≡ Ok c
    → c.0 < length keys + 1
unfolding list_of_label
place_inside keys r l c h =
    let a = bind_ok (or_disagree (place_of keys l)) _ c h in
    let lt = index_inside _ keys a.0 (agreed_ok (place_of keys l) a.0 a.1) in
    let made : Carried = (a.0 + 1, r) in
    let e : made ≡ c = ok_is made c a.2 in
    omega (arith, lt, ap (λ (x : Carried). x.0) e)

labels_inside : (keys : List Label) (r : ℕ) (ls : List Label) (cs : List Carried)
    → each (list_of_label keys r) ls ≡ Ok cs → InLists (length keys + 1) cs
unfolding each
labels_inside keys r [] cs h = let e : [] ≡ cs = ok_is [] cs h in rw (← e) tt
labels_inside keys r (l ∷ ls) cs h =
    let a = bind_ok (list_of_label keys r l) _ cs h in
    let b = bind_ok (each (list_of_label keys r) ls) _ cs a.2 in
    let e : a.0 ∷ b.0 ≡ cs = ok_is (a.0 ∷ b.0) cs b.2 in
    rw (← e) (place_inside keys r l a.0 a.1, labels_inside keys r ls b.0 b.1)

inside_append : (n : ℕ) (cs ds : List Carried) → InLists n cs → InLists n ds → InLists n (cs ++ ds)
inside_append n [] ds h g = g
inside_append n (c ∷ cs) ds h g = (h.0, inside_append n cs ds h.1 g)

series_inside : (keys : List Label) (s : Carrier) (cs : List Carried)
    → lists_of_series keys s ≡ Ok cs → InLists (length keys + 1) cs
unfolding lists_of_series
series_inside keys s cs h =
    let a = bind_ok (each (list_of_label keys s.0) s.1) _ cs h in
    let first : Carried = (0, s.0) in
    let e : first ∷ a.0 ≡ cs = ok_is (first ∷ a.0) cs a.2 in
    rw (← e) (omega arith, labels_inside keys s.0 s.1 a.0 a.1)

pub placed_inside : (keys : List Label) (ss : List Carrier) (cs : List Carried)
    → each_all (lists_of_series keys) ss ≡ Ok cs → InLists (length keys + 1) cs
unfolding each_all
placed_inside keys [] cs h = let e : [] ≡ cs = ok_is [] cs h in rw (← e) tt
placed_inside keys (s ∷ ss) cs h =
    let a = bind_ok (lists_of_series keys s) _ cs h in
    let b = bind_ok (each_all (lists_of_series keys) ss) _ cs a.2 in
    let e : a.0 ++ b.0 ≡ cs = ok_is (a.0 ++ b.0) cs b.2 in
    rw (← e) (inside_append (length keys + 1) a.0 b.0 (series_inside keys s a.0 a.1)
    (placed_inside keys ss b.0 b.1))

-- ---- lists as they are kept

pub lists_are : (xs : List (Bor (List ℕ))) → references_in_each xs ≡ map references_in (bytes_of xs)
lists_are [] = refl
lists_are (x ∷ xs) = ap (λ (ys : List (List ℕ)). references_in x.now ∷ ys) (lists_are xs)

pub used_are : (xs : List (Bor (List ℕ)))
    → list_all (λ (x : Bor (List ℕ)). nat_lt 0 (length x.now)) xs
    ≡ list_all (λ (l : List ℕ). nat_lt 0 (length l)) (bytes_of xs)
used_are [] = refl
used_are (x ∷ xs) = rw (used_are xs) refl

pub used_behind : (xs : List (Bor (List ℕ)))
    → list_all (λ (x : Bor (List ℕ)). nat_lt 0 (length x.now)) (drop 1 xs) ≡ are_used (bytes_of xs)
used_behind [] = refl
used_behind (x ∷ xs) = used_are xs
