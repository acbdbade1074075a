-- Lists that the series use up agree with them.
use Rattle.std.proofs.Common.{◌≡◌, ℕ, suc, ◌+◌, ◌≤◌, Bool, true, false, ◌&&◌, cond, eqb, List, []}
use Rattle.std.proofs.Common.{◌∷◌, ◌++◌, length, get_or, set, drop, Option, Some, None, Result, Ok}
use Rattle.std.proofs.Common.{Err, refl, sym, ap, ◌∙◌, arith}
use Rattle.std.specs.Prelude.{map, slice_get}
use Rattle.std.proofs.lemmas.Bool.{eqb-true, false_from_ne_true, true_from_ne_false, eqb-false}
use Rattle.std.proofs.lemmas.List.{drop_all}
use Rattle.index_reader.specs.declared.error.IndexError.{IndexError}
use Rattle.index_reader.specs.declared.error.IndexError.TheVariants.{Memory, PostingsDisagree}
use Rattle.index_reader.specs.Outcome.{Fails}
use Rattle.index_reader.specs.Reading.Steps.{each}
use Rattle.wire.specs.Outcome.{◌>>=◌}
use Rattle.index_reader.specs.Layout.{Label, TableEntry}
use Rattle.index_reader.specs.References.{references_in}
use Rattle.index_reader.specs.Reading.Carried.{Carried, is_first, all_empty, are_used_up}
use Rattle.index_reader.specs.Lookups.{place_of}
use Rattle.index_reader.specs.Reading.Agreement.{Carrier, or_disagree, keys_at, list_of_label}
use Rattle.index_reader.specs.Reading.Agreement.{lists_of_series, each_all, are_used, agreement_of}
use Rattle.index_reader.specs.Reading.Walk.{Rests, in_turn, rests_of, with_rest, take_reference}
use Rattle.index_reader.specs.Reading.Walk.{take_label, take_series, keys_used_up}
use Rattle.index_reader.proofs.Eaches.{drop_at_place}
use Rattle.index_reader.proofs.OnlyDisagrees.{OnlyDisagrees, only_ok, only_then, only_refused}
use Rattle.index_reader.proofs.OnlyDisagrees.{only_each, only_each_all, only_place, only_placed}

abbrev Lists : Type 0
Lists = List (List ℕ)

-- lists beside pairs
abbrev pub beside : List Label → Lists → Rests
beside keys lists = record { keys = keys; lists = lists }

abbrev pub walked : List Label → Lists → Result Rests IndexError
walked keys lists = Ok (beside keys lists)

-- ---- steps in turn

fails_then : {A B : Type 0} (e : IndexError) (r : Result A IndexError) (f : A → Result B IndexError)
    (total : Result B IndexError) → Fails e r → (r >>= f) ≡ total → Fails e total
fails_then Memory r f total h so_far = tt
fails_then e r f total h so_far = sym (rw h at so_far)

pub turn_on : {S A : Type 0} (step : S → A → Result S IndexError) (s t : S) (as' : List A) (i : ℕ)
    (a : A) (total : Result S IndexError) → slice_get as' i ≡ Some a → step s a ≡ Ok t
    → in_turn step s (drop i as') ≡ total → in_turn step t (drop (i + 1) as') ≡ total
unfolding in_turn
turn_on step s t as' i a total g h so_far =
    let f : i + 1 ≡ suc i = omega arith in
    rw f (sym (rw h at (rw (drop_at_place as' i a g) at (sym so_far))))

pub turn_fails : {S A : Type 0} (step : S → A → Result S IndexError) (e : IndexError) (s : S)
    (as' : List A) (i : ℕ) (a : A) (total : Result S IndexError) → slice_get as' i ≡ Some a
    → Fails e (step s a)
    → in_turn step s (drop i as') ≡ total → Fails e total
unfolding in_turn
turn_fails step e s as' i a total g h so_far =
    fails_then e (step s a) (λ t. in_turn step t (drop (suc i) as')) total h
    (rw (drop_at_place as' i a g) at so_far)

pub turn_done : {S A : Type 0} (step : S → A → Result S IndexError) (s : S) (as' : List A) (i : ℕ)
    (total : Result S IndexError) → length as' ≤ i → in_turn step s (drop i as') ≡ total
    → total ≡ Ok s
unfolding in_turn
turn_done step s as' i total le so_far = sym so_far ∙ rw (drop_all i as' le) refl

-- ---- one reference

pub taken_none : (r : ℕ) (rests : Rests) (k : ℕ) → get_or rests.lists k [] ≡ []
    → take_reference r rests k ≡ Err PostingsDisagree
unfolding take_reference
taken_none r rests k e = rw e refl

pub taken_other : (r : ℕ) (rests : Rests) (k x : ℕ) (xs : List ℕ)
    → get_or rests.lists k [] ≡ x ∷ xs → (x ≡ r → ⊥)
    → take_reference r rests k ≡ Err PostingsDisagree
unfolding take_reference
taken_other r rests k x xs e ne =
    let no : eqb x r ≡ false = false_from_ne_true (eqb x r) (λ t. ne (eqb-true x r t)) in
    rw (e, no) refl

eqb_same : (n : ℕ) → eqb n n ≡ true
eqb_same n = true_from_ne_false (eqb n n) (λ h. eqb-false n n h refl)

pub taken_first : (r : ℕ) (rests : Rests) (k x : ℕ) (xs : List ℕ)
    → get_or rests.lists k [] ≡ x ∷ xs → x ≡ r
    → take_reference r rests k ≡ Ok (with_rest rests k xs)
unfolding take_reference
taken_first r rests k x xs e same =
    let yes : eqb x r ≡ true = rw same (eqb_same r) in
    rw (e, yes) refl

-- ---- the order of refusals does not count, since there is one

then_refused : {A B : Type 0} (r : Result A IndexError) (f : A → Result B IndexError)
    → OnlyDisagrees r → ((x : A) → f x ≡ Err PostingsDisagree) → (r >>= f) ≡ Err PostingsDisagree
then_refused (Ok x) f only h = h x
then_refused (Err e) f only h = ap (λ (d : IndexError). Err d) (only e refl)

then_same : {A B : Type 0} (r : Result A IndexError) (f g : A → Result B IndexError)
    → ((x : A) → f x ≡ g x) → (r >>= f) ≡ (r >>= g)
then_same (Ok x) f g h = h x
then_same (Err e) f g h = refl

grouped : {A B C : Type 0} (r : Result A IndexError) (f : A → Result B IndexError)
    (g : B → Result C IndexError) → ((r >>= f) >>= g) ≡ (r >>= λ x. f x >>= g)
grouped (Ok x) f g = refl
grouped (Err e) f g = refl

swapped : {A B C : Type 0} (r : Result A IndexError) (s : Result B IndexError)
    (f : A → B → Result C IndexError) → OnlyDisagrees r → OnlyDisagrees s
    → (r >>= λ x. s >>= λ y. f x y) ≡ (s >>= λ y. r >>= λ x. f x y)
swapped (Ok x) s f a b = refl
swapped (Err e) (Ok y) f a b = refl
swapped (Err e) (Err d) f a b = ap (λ (x : IndexError). Err x) (a e refl ∙ sym (b d refl))

-- ---- the walk beside pairs that stay the same

front_taken : ℕ → Lists → ℕ → Result Lists IndexError
front_taken r lists k =
    cond (is_first r (get_or lists k [])) (Ok (set lists k (drop 1 (get_or lists k []))))
    (Err PostingsDisagree)

label_taken : List Label → ℕ → Lists → Label → Result Lists IndexError
label_taken keys r lists l = or_disagree (place_of keys l) >>= λ at. front_taken r lists (at + 1)

series_taken : List Label → Lists → Carrier → Result Lists IndexError
series_taken keys lists s =
    front_taken s.0 lists 0 >>= λ rest. in_turn (label_taken keys s.0) rest s.1

front_beside : (keys : List Label) (r : ℕ) (lists : Lists) (k : ℕ)
    → take_reference r (beside keys lists) k ≡ (front_taken r lists k >>= λ t. Ok (beside keys t))
unfolding take_reference front_taken
front_beside keys r lists k =
    go (is_first r (get_or lists k [])) (set lists k (drop 1 (get_or lists k [])))
  where
    go : (b : Bool) (t : Lists) → cond b (Ok (beside keys t)) (Err PostingsDisagree)
        ≡ (cond b (Ok t) (Err PostingsDisagree) >>= λ u. Ok (beside keys u))
    go true t = refl
    go false t = refl

label_beside : (keys : List Label) (r : ℕ) (lists : Lists) (l : Label)
    → take_label r (beside keys lists) l
    ≡ (label_taken keys r lists l >>= λ t. Ok (beside keys t))
unfolding take_label label_taken
label_beside keys r lists l = go (place_of keys l)
  where
    go : (o : Option ℕ)
        → (or_disagree o >>= λ at. take_reference r (beside keys lists) (at + 1))
        ≡ ((or_disagree o >>= λ at. front_taken r lists (at + 1)) >>= λ t. Ok (beside keys t))
    go None = refl
    go (Some k) = front_beside keys r lists (k + 1)

-- steps beside the pairs are steps
turn_beside : {A : Type 0} (keys : List Label) (step : Rests → A → Result Rests IndexError)
    (bare : Lists → A → Result Lists IndexError)
    → ((lists : Lists) (a : A) → step (beside keys lists) a
    ≡ (bare lists a >>= λ t. Ok (beside keys t)))
    → (lists : Lists) (as' : List A) → in_turn step (beside keys lists) as'
    ≡ (in_turn bare lists as' >>= λ t. Ok (beside keys t))
unfolding in_turn
turn_beside keys step bare same lists [] = refl
turn_beside keys step bare same lists (a ∷ as') =
    ap (λ (r : Result Rests IndexError). r >>= λ t. in_turn step t as') (same lists a)
    ∙ grouped (bare lists a) (λ t. Ok (beside keys t)) (λ t. in_turn step t as')
    ∙ then_same (bare lists a) _ _ (λ t. turn_beside keys step bare same t as')
    ∙ sym (grouped (bare lists a) (λ t. in_turn bare t as') (λ t. Ok (beside keys t)))

series_beside : (keys : List Label) (lists : Lists) (s : Carrier)
    → take_series (beside keys lists) s
    ≡ (series_taken keys lists s >>= λ t. Ok (beside keys t))
unfolding take_series series_taken
series_beside keys lists s =
    ap (λ (r : Result Rests IndexError). r >>= λ t. in_turn (take_label s.0) t s.1)
    (front_beside keys s.0 lists 0)
    ∙ grouped (front_taken s.0 lists 0) (λ t. Ok (beside keys t))
    (λ t. in_turn (take_label s.0) t s.1)
    ∙ then_same (front_taken s.0 lists 0) _ _ (λ t.
    turn_beside keys (take_label s.0) (label_taken keys s.0) (label_beside keys s.0) t s.1)
    ∙ sym (grouped (front_taken s.0 lists 0) (λ t. in_turn (label_taken keys s.0) t s.1)
    (λ t. Ok (beside keys t)))

-- ---- all references of a list of pairs

one_taken : Lists → Carried → Result Lists IndexError
one_taken lists c = front_taken c.1 lists c.0

taken : Lists → List Carried → Result Lists IndexError
taken lists cs = in_turn one_taken lists cs

taken_both : (lists : Lists) (as' bs : List Carried)
    → taken lists (as' ++ bs) ≡ (taken lists as' >>= λ rest. taken rest bs)
unfolding taken in_turn
taken_both lists [] bs = refl
taken_both lists (a ∷ as') bs =
    then_same (one_taken lists a) _ _ (λ t. taken_both t as' bs)
    ∙ sym (grouped (one_taken lists a) (λ t. in_turn one_taken t as') (λ rest.
    in_turn one_taken rest bs))

only_one : (r : ℕ) (lists : Lists) (k : ℕ) → OnlyDisagrees (front_taken r lists k)
unfolding front_taken
only_one r lists k = go (is_first r (get_or lists k []))
  where
    go : (b : Bool) → OnlyDisagrees (cond b (Ok (set lists k (drop 1 (get_or lists k []))))
        (Err PostingsDisagree))
    go true = only_ok _
    go false = only_refused

only_taken : (lists : Lists) (cs : List Carried) → OnlyDisagrees (taken lists cs)
unfolding taken in_turn one_taken
only_taken lists [] = only_ok lists
only_taken lists (c ∷ cs) =
    only_then (front_taken c.1 lists c.0) _ (only_one c.1 lists c.0) (λ t. only_taken t cs)

-- the first of them, and then those that a later reading gives
first_taken : (r : ℕ) (lists : Lists) (k : ℕ) (read : Result (List Carried) IndexError)
    → OnlyDisagrees read
    → (front_taken r lists k >>= λ t. read >>= λ cs. taken t cs)
    ≡ (read >>= λ cs. taken lists ((k, r) ∷ cs))
unfolding taken in_turn one_taken
first_taken r lists k read only =
    swapped (front_taken r lists k) read (λ t cs. in_turn one_taken t cs)
    (only_one r lists k) only

-- a label, and then the others
label_first : (keys : List Label) (r : ℕ) (ls : List Label) (lists : Lists) (o : Option ℕ)
    → ((t : Lists)
    → in_turn (label_taken keys r) t ls ≡ (each (list_of_label keys r) ls >>= λ cs. taken t cs))
    → ((or_disagree o >>= λ at. front_taken r lists (at + 1))
    >>= λ t. in_turn (label_taken keys r) t ls)
    ≡ (((or_disagree o >>= λ at. Ok (at + 1, r))
    >>= λ x. each (list_of_label keys r) ls >>= λ xs. Ok (x ∷ xs)) >>= λ cs. taken lists cs)
label_first keys r ls lists None later = refl
label_first keys r ls lists (Some k) later =
    then_same (front_taken r lists (k + 1)) _ _ later
    ∙ first_taken r lists (k + 1) (each (list_of_label keys r) ls)
    (only_each (list_of_label keys r) ls (only_place keys r))
    ∙ sym (grouped (each (list_of_label keys r) ls) (λ xs. Ok ((k + 1, r) ∷ xs))
    (λ cs. taken lists cs))

labels_are : (keys : List Label) (r : ℕ) (ls : List Label) (lists : Lists)
    → in_turn (label_taken keys r) lists ls
    ≡ (each (list_of_label keys r) ls >>= λ cs. taken lists cs)
unfolding in_turn each label_taken list_of_label taken
labels_are keys r [] lists = refl
labels_are keys r (l ∷ ls) lists =
    label_first keys r ls lists (place_of keys l) (λ t. labels_are keys r ls t)

one_series : (keys : List Label) (s : Carrier) (lists : Lists)
    → series_taken keys lists s ≡ (lists_of_series keys s >>= λ cs. taken lists cs)
unfolding series_taken lists_of_series
one_series keys s lists =
    then_same (front_taken s.0 lists 0) _ _ (λ t. labels_are keys s.0 s.1 t)
    ∙ first_taken s.0 lists 0 (each (list_of_label keys s.0) s.1)
    (only_each (list_of_label keys s.0) s.1 (only_place keys s.0))
    ∙ sym (grouped (each (list_of_label keys s.0) s.1) (λ others. Ok ((
      0,
      s.0,
    ) ∷ others)) (λ cs. taken lists cs))

all_series : (keys : List Label) (ss : List Carrier) (lists : Lists)
    → in_turn (series_taken keys) lists ss
    ≡ (each_all (lists_of_series keys) ss >>= λ cs. taken lists cs)
unfolding in_turn each_all taken
all_series keys [] lists = refl
all_series keys (s ∷ ss) lists =
    let more = each_all (lists_of_series keys) ss in
    ap (λ (r : Result Lists IndexError). r >>= λ t. in_turn (series_taken keys) t ss)
    (one_series keys s lists)
    ∙ grouped (lists_of_series keys s) (λ cs. taken lists cs)
    (λ t. in_turn (series_taken keys) t ss)
    ∙ then_same (lists_of_series keys s) _ _ (λ first.
    then_same (taken lists first) _ _ (λ t. all_series keys ss t)
    ∙ swapped (taken lists first) more (λ t cs. taken t cs) (only_taken lists first)
    (only_each_all (lists_of_series keys) ss (only_placed keys))
    ∙ then_same more _ _ (λ others. sym (taken_both lists first others))
    ∙ sym (grouped more (λ others. Ok (first ++ others)) (λ cs. taken lists cs)))
    ∙ sym (grouped (lists_of_series keys s) (λ first. more >>= λ others. Ok (first ++ others))
    (λ cs. taken lists cs))

-- ---- the test

ends_empty : Result Lists IndexError → Bool
ends_empty (Ok lists) = all_empty lists
ends_empty (Err e) = false

drained_first : (lists : Lists) (c : Carried) (cs : List Carried) (b : Bool)
    → are_used_up (set lists c.0 (drop 1 (get_or lists c.0 []))) cs
    ≡ ends_empty (taken (set lists c.0 (drop 1 (get_or lists c.0 []))) cs)
    → (b && are_used_up (set lists c.0 (drop 1 (get_or lists c.0 []))) cs)
    ≡ ends_empty (cond b (Ok (set lists c.0 (drop 1 (get_or lists c.0 [])))) (Err PostingsDisagree)
    >>= λ t. in_turn one_taken t cs)
unfolding ends_empty taken
drained_first lists c cs true later = later
drained_first lists c cs false later = refl

drained_is : (cs : List Carried) (lists : Lists)
    → are_used_up lists cs ≡ ends_empty (taken lists cs)
unfolding are_used_up taken in_turn one_taken front_taken ends_empty
drained_is [] lists = refl
drained_is (c ∷ cs) lists =
    drained_first lists c cs (is_first c.1 (get_or lists c.0 []))
    (drained_is cs (set lists c.0 (drop 1 (get_or lists c.0 []))))

decided : (used : Bool) (keys : List Label) (r : Result Lists IndexError) → OnlyDisagrees r
    → (r >>= λ rests. cond (used && all_empty rests) (Ok keys) (Err PostingsDisagree))
    ≡ cond (used && ends_empty r) (Ok keys) (Err PostingsDisagree)
unfolding ends_empty
decided used keys (Ok lists) only = refl
decided true keys (Err e) only = ap (λ (d : IndexError). Err d) (only e refl)
decided false keys (Err e) only = ap (λ (d : IndexError). Err d) (only e refl)

pub used_up_is : (symbols : List (List ℕ)) (table : List TableEntry) (lists : Lists)
    (series : List Carrier)
    → keys_used_up symbols table lists series ≡ agreement_of symbols table lists series
unfolding keys_used_up rests_of agreement_of
used_up_is symbols table lists series =
    let whole = map references_in lists in
    let last = λ (rests : Rests).
    cond (are_used lists && all_empty rests.lists) (Ok rests.keys) (Err PostingsDisagree) in
    grouped (keys_at symbols table) (λ keys. Ok (beside keys whole))
    (λ rests. in_turn take_series rests series >>= last)
    ∙ then_same (keys_at symbols table) _ _ (λ keys.
    ap (λ (r : Result Rests IndexError). r >>= last)
    (turn_beside keys take_series (series_taken keys) (series_beside keys) whole series)
    ∙ grouped (in_turn (series_taken keys) whole series) (λ t. Ok (beside keys t)) last
    ∙ ap (λ (r : Result Lists IndexError). r
    >>= λ rests. cond (are_used lists && all_empty rests) (Ok keys) (Err PostingsDisagree))
    (all_series keys series whole)
    ∙ grouped (each_all (lists_of_series keys) series) (λ cs. taken whole cs)
    (λ rests. cond (are_used lists && all_empty rests) (Ok keys) (Err PostingsDisagree))
    ∙ then_same (each_all (lists_of_series keys) series) _ _ (λ placed.
    decided (are_used lists) keys (taken whole placed) (only_taken whole placed)
    ∙ ap (λ (b : Bool). cond (are_used lists && b) (Ok keys) (Err PostingsDisagree))
    (sym (drained_is placed whole))))
