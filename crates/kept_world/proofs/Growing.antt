-- What a batch adds stands behind the last, and carries its event's number.
use Rattle.std.proofs.Common.{◌≡◌, ℕ, ◌+◌, ◌<◌, ◌≤◌, Bool, true, false, cond, List, [], ◌∷◌, ◌++◌, Option, Some, None, nat_le, map, filter, take, length, zero, suc, ℤ, get_or, drop, ◌-◌, add-one, add-zero, refl, sym, ap, subst, ◌∙◌, arith, append_assoc, int_lt}
use Rattle.std.specs.Ordering.{int_eq}
use Rattle.std.specs.Prelude.{if◌then◌else◌}
use Rattle.std.specs.List.{AllByRecursion}
use Rattle.std.proofs.lemmas.List.{map-append}
use Rattle.std.proofs.lemmas.List.Elements.{filter-append}
use Rattle.labels.specs.Labels.{same_labels}
use Rattle.labels.specs.Rows.{Row}
use Rattle.labels.specs.Parts.{Part}
use Rattle.matchers.specs.Satisfies.{satisfies_all}
use Rattle.kept_walk.specs.Kept.{Event, event_of, batch, deletion, cut}
use Rattle.kept_walk.specs.declared.journal_state.Change.{Change}
use Rattle.kept_world.specs.States.{Born, HeadSeries, State, Entry, shown, shown_row, samples_of, with_last, grown, new_series, placed, has_room, max_samples, before_all, behind, added, added_each, entries_of, deleted, with_block, with_blocks, raised, rows_below, stepped, with_head, state_from, state_after}
use Rattle.kept_world.specs.Births.{came_row, came_by, AreBornBy, IsPartOf, IsHeadAt, OnlyGrows, batches}

le_false : (p n : ℕ) → p < n → nat_le n p ≡ false
le_false p n h = grind arith

le_true : (p n : ℕ) → n ≤ p → nat_le n p ≡ true
le_true p n h = grind arith

pub came-cons : (p : ℕ) (e : HeadSeries) (es : List HeadSeries) → came_by p (e ∷ es) ≡ cond (nat_le e.born p) (came_row p e ∷ came_by p es) (came_by p es)
came-cons p e es = elim (nat_le e.born p) as (λ b. map (came_row p) (cond b (e ∷ filter (λ (x : HeadSeries). nat_le x.born p) es) (filter (λ (x : HeadSeries). nat_le x.born p) es)) ≡ cond b (came_row p e ∷ came_by p es) (came_by p es)) [ true ↦ refl | false ↦ refl ]

-- a longer list of samples
late_sample : (p n : ℕ) (s : (ℤ × ℤ)) → p < n → filter (λ (k : Born). nat_le k.0 p) ((n, s) ∷ []) ≡ []
late_sample p n s h = ap (λ b. cond b ((n, s) ∷ []) []) (le_false p n h)

append-nil : {A : Type 0} (xs : List A) → xs ++ [] ≡ xs
append-nil [] = refl
append-nil (x ∷ xs) = ap (λ ys. x ∷ ys) (append-nil xs)

came_row-with_last : (p n : ℕ) (s : (ℤ × ℤ)) (e : HeadSeries) → p < n → came_row p (with_last n s e) ≡ came_row p e
came_row-with_last p n s e h = ap (λ (ks : List Born). (e.labels, samples_of ks)) (filter-append (λ (k : Born). nat_le k.0 p) e.samples ((n, s) ∷ []) ∙ ap (λ (ks : List Born). filter (λ (k : Born). nat_le k.0 p) e.samples ++ ks) (late_sample p n s h) ∙ append-nil (filter (λ (k : Born). nat_le k.0 p) e.samples))

pub refl-part : (xs : List Row) → IsPartOf xs xs
refl-part [] = tt
refl-part (x ∷ xs) = (refl, ([], sym (append-nil x.1)), refl-part xs)

pub trans-part : (xs ys zs : List Row) → IsPartOf xs ys → IsPartOf ys zs → IsPartOf xs zs
trans-part [] ys zs h k = tt
trans-part (x ∷ xs) [] zs h k = absurd h
trans-part (x ∷ xs) (y ∷ ys) [] h k = absurd k
trans-part (x ∷ xs) (y ∷ ys) (z ∷ zs) h k = (h.0 ∙ k.0, (h.1.0 ++ k.1.0, k.1.1 ∙ ap (λ l. l ++ k.1.0) h.1.1 ∙ append_assoc x.1 h.1.0 k.1.0), trans-part xs ys zs h.2 k.2)

all-snoc : {A : Type 0} (P : A → Type 0) (xs : List A) (y : A) → AllByRecursion P xs → P y → AllByRecursion P (xs ++ y ∷ [])
all-snoc P [] y h k = (k, tt)
all-snoc P (x ∷ xs) y h k = (h.0, all-snoc P xs y h.1 k)

-- what an event with this number may do to a head
pub record Grows (n : ℕ) (old : List HeadSeries) (new : List HeadSeries) : Type 0 where
  pub came : (p : ℕ) → p < n → came_by p new ≡ came_by p old
  pub part : IsPartOf (shown old) (shown new)
  pub born : AreBornBy n old → AreBornBy n new

pub refl-grows : (n : ℕ) (h : List HeadSeries) → Grows n h h
refl-grows n h = record { came = λ p l. refl; part = refl-part (shown h); born = λ b. b }

pub trans-grows : (n : ℕ) (a b c : List HeadSeries) → Grows n a b → Grows n b c → Grows n a c
trans-grows n a b c g h = record {
  came = λ p l. h.came p l ∙ g.came p l;
  part = trans-part (shown a) (shown b) (shown c) g.part h.part;
  born = λ k. h.born (g.born k);
}

behind-grows : (n : ℕ) (e : HeadSeries) (a b : List HeadSeries) → Grows n a b → Grows n (e ∷ a) (e ∷ b)
behind-grows n e a b g = record {
  came = λ p l. came-cons p e b ∙ ap (λ (r : List Row). cond (nat_le e.born p) (came_row p e ∷ r) r) (g.came p l) ∙ sym (came-cons p e a);
  part = (refl, ([], sym (append-nil (shown_row e).1)), g.part);
  born = λ k. (k.0, g.born k.1);
}

with_last-grows : (n : ℕ) (s : (ℤ × ℤ)) (e : HeadSeries) (es : List HeadSeries) → Grows n (e ∷ es) (with_last n s e ∷ es)
with_last-grows n s e es = record {
  came = λ p l. came-cons p (with_last n s e) es ∙ ap (λ (r : Row). cond (nat_le e.born p) (r ∷ came_by p es) (came_by p es)) (came_row-with_last p n s e l) ∙ sym (came-cons p e es);
  part = (refl, (s ∷ [], map-append (λ (k : Born). k.1) e.samples ((n, s) ∷ [])), refl-part (shown es));
  born = λ k. (record { series = k.0.series; samples = all-snoc (λ (b : Born). b.0 ≤ n) e.samples (n, s) k.0.samples (omega arith) }, k.1);
}

new-grows : (n : ℕ) (x : Entry) → Grows n [] (new_series n x ∷ [])
new-grows n x = record {
  came = λ p l. came-cons p (new_series n x) [] ∙ ap (λ b. cond b (came_row p (new_series n x) ∷ []) []) (le_false p n l);
  part = tt;
  born = λ k. (record { series = omega arith; samples = (omega arith, tt) }, tt);
}

-- an option's head has grown
abbrev pub MayGrow : ℕ → List HeadSeries → Option (List HeadSeries) → Type 0
MayGrow n old None = Unit {0}
MayGrow n old (Some new) = Grows n old new

grown-grows : (n : ℕ) (s : (ℤ × ℤ)) (e : HeadSeries) (es : List HeadSeries) → MayGrow n (e ∷ es) (before_all (grown n s e) es)
grown-grows n s e es =
    elim (int_lt s.0 e.newest.0) as (λ a. MayGrow n (e ∷ es) (before_all (if a then None else if int_eq s.0 e.newest.0 then (if int_eq s.1 e.newest.1 then Some e else None) else if nat_le max_samples (length e.samples) then None else Some (with_last n s e)) es)) [
      | true ↦ tt
      | false ↦ elim (int_eq s.0 e.newest.0) as (λ b. MayGrow n (e ∷ es) (before_all (if b then (if int_eq s.1 e.newest.1 then Some e else None) else if nat_le max_samples (length e.samples) then None else Some (with_last n s e)) es)) [
        | true ↦ elim (int_eq s.1 e.newest.1) as (λ d. MayGrow n (e ∷ es) (before_all (if d then Some e else None) es)) [
          | true ↦ refl-grows n (e ∷ es)
          | false ↦ tt
        ]
        | false ↦ elim (nat_le max_samples (length e.samples)) as (λ d. MayGrow n (e ∷ es) (before_all (if d then None else Some (with_last n s e)) es)) [
          | true ↦ tt
          | false ↦ with_last-grows n s e es
        ]
      ]
    ]

behind-may : (n : ℕ) (e : HeadSeries) (es : List HeadSeries) (r : Option (List HeadSeries)) → MayGrow n es r → MayGrow n (e ∷ es) (behind e r)
behind-may n e es None g = tt
behind-may n e es (Some new) g = behind-grows n e es new g

begun-grows : (room : Bool) (n : ℕ) (x : Entry) → MayGrow n [] (if room then Some (new_series n x ∷ []) else None)
begun-grows true n x = new-grows n x
begun-grows false n x = tt

pub placed-grows : (room : Bool) (n : ℕ) (x : Entry) (head : List HeadSeries) → MayGrow n head (placed room n x head)
placed-grows room n x [] = begun-grows room n x
placed-grows room n x (e ∷ es) =
    elim (same_labels x.0 e.labels) as (λ b. MayGrow n (e ∷ es) (if b then before_all (grown n x.1 e) es else behind e (placed room n x es))) [
      | true ↦ grown-grows n x.1 e es
      | false ↦ behind-may n e es (placed room n x es) (placed-grows room n x es)
    ]

trans-may : (n : ℕ) (a b : List HeadSeries) (r : Option (List HeadSeries)) → Grows n a b → MayGrow n b r → MayGrow n a r
trans-may n a b None g h = tt
trans-may n a b (Some c) g h = trans-grows n a b c g h

added-grows : (n : ℕ) (floor : ℤ) (x : Entry) (head : List HeadSeries) → MayGrow n head (added n floor x head)
added-grows n floor x head =
    elim (int_lt x.1.0 floor) as (λ b. MayGrow n head (if b then None else placed (has_room head) n x head)) [ true ↦ tt | false ↦ placed-grows (has_room head) n x head ]

each-grows : (n : ℕ) (floor : ℤ) (xs : List Entry) (old : List HeadSeries) (r : Option (List HeadSeries)) → MayGrow n old r → MayGrow n old (added_each n floor r xs)
each-grows n floor [] old r g = g
each-grows n floor (x ∷ xs) old None g = tt
each-grows n floor (x ∷ xs) old (Some h) g = each-grows n floor xs old (added n floor x h) (trans-may n old h (added n floor x h) g (added-grows n floor x h))

-- what an accepted batch does to a state
pub record Accepts (s : State) (t : State) : Type 0 where
  pub number : t.number ≡ s.number + 1
  pub floor : t.floor ≡ s.floor
  pub blocks : t.blocks ≡ s.blocks
  pub head : Grows (s.number + 1) s.head t.head

with-accepts : (s t : State) (r : Option (List HeadSeries)) → MayGrow (s.number + 1) s.head r → with_head s r ≡ Some t → Accepts s t
with-accepts s t None g h = cc
with-accepts s t (Some head) g h =
    let q : record s { number = s.number + 1; head = head } ≡ t = cc in
    subst (Accepts s) q (record { number = refl; floor = refl; blocks = refl; head = g })

pub batch-accepts : (s t : State) (xs : List Row) → stepped s (batch xs) ≡ Some t → Accepts s t
batch-accepts s t xs h = with-accepts s t (added_each (s.number + 1) s.floor (Some s.head) (entries_of xs)) (each-grows (s.number + 1) s.floor (entries_of xs) s.head (Some s.head) (refl-grows (s.number + 1) s.head)) h

pub none_stays : (events : List Event) → state_from None events ≡ None
none_stays [] = refl
none_stays (x ∷ xs) = refl

-- what a run of batches does to a state
pub record Runs (s : State) (t : State) : Type 0 where
  pub number : s.number ≤ t.number
  pub blocks : t.blocks ≡ s.blocks
  pub part : IsPartOf (shown s.head) (shown t.head)
  pub came : (p : ℕ) → p ≤ s.number → came_by p t.head ≡ came_by p s.head

refl-runs : (s : State) → Runs s s
refl-runs s = record { number = omega arith; blocks = refl; part = refl-part (shown s.head); came = λ p l. refl }

then-runs : (s m t : State) → Accepts s m → Runs m t → Runs s t
then-runs s m t a r = record {
  number = omega (arith, a.number, r.number);
  blocks = r.blocks ∙ a.blocks;
  part = trans-part (shown s.head) (shown m.head) (shown t.head) a.head.part r.part;
  came = λ p l. r.came p (omega (arith, a.number)) ∙ a.head.came p (omega arith);
}

run-from : (bs : List (List Row)) (s t : State) (r : Option State) → ((m : State) → r ≡ Some m → Accepts s m) → state_from r (batches bs) ≡ Some t → Runs s t
run-from [] s t r a h = then-runs s t t (a t h) (refl-runs t)
run-from (b ∷ bs) s t None a h = cc
run-from (b ∷ bs) s t (Some m) a h = then-runs s m t (a m refl) (run-from bs m t (stepped m (batch b)) (λ k e. batch-accepts m k b e) h)

pub run_grows : (bs : List (List Row)) (s t : State) → state_after (batches bs) s ≡ Some t → Runs s t
run_grows [] s t h = let q : s ≡ t = cc in subst (Runs s) q (refl-runs s)
run_grows (b ∷ bs) s t h = run-from bs s t (stepped s (batch b)) (λ k e. batch-accepts s k b e) h

-- all that came is all
all-came : (n : ℕ) (ks : List Born) → AllByRecursion (λ (k : Born). k.0 ≤ n) ks → filter (λ (k : Born). nat_le k.0 n) ks ≡ ks
all-came n [] h = refl
all-came n (k ∷ ks) h = ap (λ b. cond b (k ∷ filter (λ (k : Born). nat_le k.0 n) ks) (filter (λ (k : Born). nat_le k.0 n) ks)) (le_true n k.0 h.0) ∙ ap (λ (l : List Born). k ∷ l) (all-came n ks h.1)

pub came-all : (n : ℕ) (head : List HeadSeries) → AreBornBy n head → came_by n head ≡ shown head
came-all n [] h = refl
came-all n (e ∷ es) h =
    came-cons n e es
    ∙ ap (λ b. cond b (came_row n e ∷ came_by n es) (came_by n es)) (le_true n e.born h.0.series)
    ∙ ap (λ (r : List Row). came_row n e ∷ r) (came-all n es h.1)
    ∙ ap (λ (ks : List Born). (e.labels, samples_of ks) ∷ shown es) (all-came n e.samples h.0.samples)

later-samples : (m n : ℕ) (ks : List Born) → m ≤ n → AllByRecursion (λ (k : Born). k.0 ≤ m) ks → AllByRecursion (λ (k : Born). k.0 ≤ n) ks
later-samples m n [] l h = tt
later-samples m n (k ∷ ks) l h = (let f : k.0 ≤ m = h.0 in omega arith, later-samples m n ks l h.1)

pub later : (m n : ℕ) (head : List HeadSeries) → m ≤ n → AreBornBy m head → AreBornBy n head
later m n [] l h = tt
later m n (e ∷ es) l h = (record { series = let f : e.born ≤ m = h.0.series in omega arith; samples = later-samples m n e.samples l h.0.samples }, later m n es l h.1)

take-none : {A : Type 0} (n : ℕ) → take {A = A} n [] ≡ []
take-none zero = refl
take-none (suc n) = refl

-- the head at a place of a run
abbrev IsHeadFrom : Option State → ℕ → List (List Row) → State → ℕ → Type 0
IsHeadFrom r n bs last q =
    (s : State) × (state_from r (batches (take q bs)) ≡ Some s)
    × (came_by n last.head ≡ shown s.head) × (s.blocks ≡ last.blocks)

next-head : (first last : State) (b : List Row) (bs : List (List Row)) (q n : ℕ) (r : Option State) → AreBornBy first.number first.head → first.number + suc q ≡ n → q ≤ length bs → ((m : State) → r ≡ Some m → Accepts first m) → ((m : State) → IsHeadAt m bs last q) → state_from r (batches bs) ≡ Some last → IsHeadFrom r n bs last q
next-head first last b bs q n None born e l a ih h = absurd (let k : None ≡ Some last = sym (none_stays (batches bs)) ∙ h in cc)
next-head first last b bs q n (Some m) born e l a ih h =
    let w : Accepts first m = a m refl in
    let k : m.number ≡ first.number + 1 = w.number in
    let z : AreBornBy m.number m.head = subst (λ i. AreBornBy i m.head) (sym k) (w.head.born (later first.number (first.number + 1) first.head (omega arith) born)) in
    let o : m.number + q ≡ n = omega arith in
    let g = ih m z h l in
    (g.0, g.1, ap (λ i. came_by i last.head) (sym o) ∙ g.2, g.3)

pub head_at : (bs : List (List Row)) (first last : State) (p : ℕ) → IsHeadAt first bs last p
head_at bs first last zero = λ born run l.
    let w : Runs first last = run_grows bs first last run in
    (first, refl, rw add-zero (w.came first.number (omega arith) ∙ came-all first.number first.head born), sym w.blocks)
head_at [] first last (suc q) = λ born run l. absurd (omega arith)
head_at (b ∷ bs) first last (suc q) = λ born run l.
    next-head first last b bs q (first.number + suc q) (stepped first (batch b)) born refl (omega arith) (λ m e. batch-accepts first m b e) (λ m. head_at bs m last q) run

pub from-append : (r : Option State) (xs ys : List Event) → state_from r (xs ++ ys) ≡ state_from (state_from r xs) ys
from-append r [] ys = refl
from-append None (x ∷ xs) ys = sym (none_stays ys)
from-append (Some s) (x ∷ xs) ys = from-append (stepped s x) xs ys

pub only_grows : (first : State) (early late : List (List Row)) → OnlyGrows first early late
only_grows first early late s t h k =
    let e : state_from (state_from (Some first) (batches early)) (batches late) ≡ Some t =
    sym (from-append (Some first) (batches early) (batches late)) ∙ ap (state_from (Some first)) (sym (map-append batch early late)) ∙ k in
    let w : Runs s t = run_grows late s t (ap (λ r. state_from r (batches late)) (sym h) ∙ e) in
    (w.part, sym w.blocks)

pub take-next : {A B : Type 0} (f : A → B) (xs : List A) (i : ℕ) (d : A) → i < length xs → map f (take (suc i) xs) ≡ map f (take i xs) ++ f (get_or xs i d) ∷ []
take-next f [] i d l = absurd (omega arith)
take-next f (x ∷ xs) zero d l = refl
take-next f (x ∷ xs) (suc i) d l = ap (λ ys. f x ∷ ys) (take-next f xs i d (omega arith))

-- one event more
pub one_more : {A : Type 0} (f : A → Event) (xs : List A) (i : ℕ) (d : A) (first now : State) → i < length xs → state_after (map f (take i xs)) first ≡ Some now → state_after (map f (take (i + 1) xs)) first ≡ stepped now (f (get_or xs i d))
one_more f xs i d first now l h =
    ap (λ n. state_after (map f (take n xs)) first) (add-one i)
    ∙ ap (state_from (Some first)) (take-next f xs i d l)
    ∙ from-append (Some first) (map f (take i xs)) (f (get_or xs i d) ∷ [])
    ∙ ap (λ r. state_from r (f (get_or xs i d) ∷ [])) h

cut-number : (t : ℤ) (s u : State) (r : Option (List Part)) → with_blocks (raised t s) r ≡ Some u → u.number ≡ s.number + 1
cut-number t s u None h = cc
cut-number t s u (Some blocks) h = let q : record (raised t s) { blocks = blocks } ≡ u = cc in ap (λ (z : State). z.number) (sym q)

-- each event has the next number
pub next_number : (s u : State) (e : Event) → stepped s e ≡ Some u → u.number ≡ s.number + 1
next_number s u (batch xs) h = (batch-accepts s u xs h).number
next_number s u (deletion ms a b) h = let q : deleted (satisfies_all ms) a b s ≡ u = cc in ap (λ (z : State). z.number) (sym q)
next_number s u (cut t) h =
    elim (int_lt s.floor t) as (λ b. (if b then with_blocks (raised t s) (with_block (rows_below t [] s.head) s.blocks) else None) ≡ Some u → u.number ≡ s.number + 1) [
      | true ↦ λ k. cut-number t s u (with_block (rows_below t [] s.head) s.blocks) k
      | false ↦ λ k. cc
    ] h

split : {A : Type 0} (xs : List A) (p q : ℕ) → p ≤ q → take q xs ≡ take p xs ++ take (q - p) (drop p xs)
split xs zero q l = ap (λ n. take n xs) (let e : q ≡ q - zero = omega arith in e)
split [] (suc p) zero l = absurd (omega arith)
split [] (suc p) (suc q) l = sym (take-none (suc q - suc p))
split (x ∷ xs) (suc p) zero l = absurd (omega arith)
split (x ∷ xs) (suc p) (suc q) l = let e : q - p ≡ suc q - suc p = omega arith in ap (λ ys. x ∷ ys) (split xs p q (omega arith) ∙ ap (λ n. take p xs ++ take n (drop p xs)) e)

-- the head at a later place of a run has more
pub parts_grow : (first last : State) (bs : List (List Row)) (p q : ℕ) → AreBornBy first.number first.head → state_after (batches bs) first ≡ Some last → p ≤ q → q ≤ length bs → IsPartOf (came_by (first.number + p) last.head) (came_by (first.number + q) last.head)
parts_grow first last bs p q born run l k =
    let early = head_at bs first last p born run (omega arith) in
    let late = head_at bs first last q born run k in
    let e : take q bs ≡ take p bs ++ take (q - p) (drop p bs) = split bs p q l in
    let w = only_grows first (take p bs) (take (q - p) (drop p bs)) early.0 late.0 early.1 (ap (λ xs. state_after (batches xs) first) (sym e) ∙ late.1) in
    subst (λ x. IsPartOf x (came_by (first.number + q) last.head)) (sym early.2) (subst (λ y. IsPartOf (shown early.0.head) y) (sym late.2) w.0)

pub take-map : {A B : Type 0} (f : A → B) (xs : List A) (i : ℕ) → take i (map f xs) ≡ map f (take i xs)
take-map f xs zero = refl
take-map f [] (suc i) = refl
take-map f (x ∷ xs) (suc i) = ap (λ ys. f x ∷ ys) (take-map f xs i)

pub events_many : (xs : List Change) → length (map event_of xs) ≡ length xs
events_many [] = refl
events_many (x ∷ xs) = ap suc (events_many xs)
