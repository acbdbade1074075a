-- What states of a store keep, each event keeps.
use Rattle.std.proofs.Common.{◌≡◌, ℕ, ℤ, zero, suc, ◌+◌, Bool, true, false, not, cond, T, List, [], ◌∷◌, ◌++◌, Option, Some, None, map, filter, length, nat_le, get_or, slice_get, slice_set, refl, sym, ap, subst, ◌∙◌, int_lt, arith}
use Rattle.std.specs.Prelude.{if◌then◌else◌, ◌&&◌}
use Rattle.std.specs.List.{list_all, AllByRecursion}
use Rattle.std.specs.Ordering.{int_eq}
use Rattle.std.proofs.lemmas.Cmp.{int_cmp_total}
use Rattle.std.proofs.lemmas.List.{map-append}
use Rattle.labels.specs.Labels.{Labels, same_labels}
use Rattle.labels.specs.Contents.{in_range}
use Rattle.labels.specs.Rows.{Row}
use Rattle.labels.specs.Parts.{Part}
use Rattle.labels.proofs.Times.{both_T, first_T, second_T, T_of, less_of, lt_of}
use Rattle.matchers.specs.Satisfies.{satisfies_all}
use Rattle.kept_walk.specs.Kept.{Event, batch, deletion, cut}
use Rattle.kept_world.specs.States.{Born, HeadSeries, State, Entry, samples_of, new_series, with_last, grown, placed, has_room, added, added_each, entries_of, with_head, struck_series, deleted, leaving, stays, rest_of, raised, rows_below, with_block, with_blocks, numbered, max_samples, max_blocks, stepped}
use Rattle.kept_world.specs.Sound.{IsSoundSeries, AreApart, place_in, label_sets, replaced, begun}
use Rattle.kept_world.proofs.Apart.{apart-append, apart-filter, sets_set, sets_struck, sets_rest, sets_many}
use Rattle.kept_world.proofs.Placing.{placed_at, placed_last, place_below, got}
use Rattle.kept_world.proofs.Rising.{sound_new, sound_last, sound_struck, sound_kept}
use Rattle.kept_laws.specs.Likeness.{at_time, in_rows, in_parts, or_else, IsKept}
use Rattle.kept_laws.proofs.Leaving.{at-kept, below-is, rows_by}
use Rattle.kept_laws.proofs.Deleting.{parts-struck}
use Rattle.kept_laws.proofs.Cutting.{parts-append, rows_back}

abbrev IsAbove : ℤ → HeadSeries → Type 0
IsAbove floor e = T (list_all (λ (k : ℤ × ℤ). not (int_lt k.0 floor)) (samples_of e.samples))

record IsKeptHead (floor : ℤ) (head : List HeadSeries) : Type 0 where
  apart : AreApart (label_sets head)
  sound : AllByRecursion IsSoundSeries head
  above : AllByRecursion (IsAbove floor) head

abbrev MayKeep : ℤ → Option (List HeadSeries) → Type 0
MayKeep floor None = Unit {0}
MayKeep floor (Some head) = IsKeptHead floor head

all-last : {A : Type 0} (P : A → Type 0) (xs : List A) (y : A) → AllByRecursion P xs → P y → AllByRecursion P (xs ++ y ∷ [])
all-last P [] y h k = (k, tt)
all-last P (x ∷ xs) y h k = (h.0, all-last P xs y h.1 k)

all-set : {A : Type 0} (P : A → Type 0) (xs : List A) (i : ℕ) (y : A) → AllByRecursion P xs → P y → AllByRecursion P (slice_set xs i y)
all-set P [] i y h k = h
all-set P (x ∷ xs) zero y h k = (k, h.1)
all-set P (x ∷ xs) (suc i) y h k = (h.0, all-set P xs i y h.1 k)

all-at : (P : HeadSeries → Type 0) (xs : List HeadSeries) (i : ℕ) (e : HeadSeries) → AllByRecursion P xs → slice_get xs i ≡ Some e → P e
all-at P [] i e h k = absurd (let z : None ≡ Some e = k in cc)
all-at P (x ∷ xs) zero e h k = let z : x ≡ e = cc in subst P z h.0
all-at P (x ∷ xs) (suc i) e h k = all-at P xs i e h.1 k

got-is : (xs : List HeadSeries) (i : ℕ) (e : HeadSeries) → slice_get xs i ≡ Some e → e ≡ get_or xs i e
got-is [] i e k = absurd (let z : None ≡ Some e = k in cc)
got-is (x ∷ xs) zero e k = let z : x ≡ e = cc in sym z
got-is (x ∷ xs) (suc i) e k = got-is xs i e k

above-last : (floor : ℤ) (ss : List (ℤ × ℤ)) (s : ℤ × ℤ) → T (list_all (λ (k : ℤ × ℤ). not (int_lt k.0 floor)) ss) → int_lt s.0 floor ≡ false → T (list_all (λ (k : ℤ × ℤ). not (int_lt k.0 floor)) (ss ++ s ∷ []))
above-last floor [] s h a = both_T _ _ (T_of _ (ap not a)) tt
above-last floor (k ∷ ks) s h a = both_T _ _ (first_T _ _ h) (above-last floor ks s (second_T _ _ h) a)

keep-begun : (floor : ℤ) (room : Bool) (n : ℕ) (x : Entry) (head : List HeadSeries) → IsKeptHead floor head → place_in x.0 (label_sets head) ≡ None → int_lt x.1.0 floor ≡ false → MayKeep floor (begun room (new_series n x) head)
keep-begun floor false n x head h none a = tt
keep-begun floor true n x head h none a = record {
  apart = subst AreApart (sym (map-append (λ (e : HeadSeries). e.labels) head (new_series n x ∷ []))) (apart-append (label_sets head) x.0 h.apart none);
  sound = all-last IsSoundSeries head (new_series n x) h.sound (sound_new n x);
  above = all-last (IsAbove floor) head (new_series n x) h.above (both_T _ _ (T_of _ (ap not a)) tt);
}

keep-set : (floor : ℤ) (n i : ℕ) (s : ℤ × ℤ) (e : HeadSeries) (head : List HeadSeries) → IsKeptHead floor head → slice_get head i ≡ Some e → int_lt s.0 floor ≡ false → int_lt s.0 e.newest.0 ≡ false → int_eq s.0 e.newest.0 ≡ false → IsKeptHead floor (slice_set head i (with_last n s e))
keep-set floor n i s e head h at a early level = record {
  apart = subst AreApart (sym (sets_set head i e (with_last n s e) (got-is head i e at) refl)) h.apart;
  sound = all-set IsSoundSeries head i (with_last n s e) h.sound (sound_last n s e early level (all-at IsSoundSeries head i e h.sound at));
  above = all-set (IsAbove floor) head i (with_last n s e) h.above
      (subst (λ (ss : List (ℤ × ℤ)). T (list_all (λ (k : ℤ × ℤ). not (int_lt k.0 floor)) ss)) (sym (map-append (λ (k : Born). k.1) e.samples ((n, s) ∷ [])))
      (above-last floor (samples_of e.samples) s (all-at (IsAbove floor) head i e h.above at) a));
}

keep-same : (floor : ℤ) (i : ℕ) (e : HeadSeries) (head : List HeadSeries) → IsKeptHead floor head → slice_get head i ≡ Some e → IsKeptHead floor (slice_set head i e)
keep-same floor i e head h at = record {
  apart = subst AreApart (sym (sets_set head i e e (got-is head i e at) refl)) h.apart;
  sound = all-set IsSoundSeries head i e h.sound (all-at IsSoundSeries head i e h.sound at);
  above = all-set (IsAbove floor) head i e h.above (all-at (IsAbove floor) head i e h.above at);
}

keep-replaced : (floor : ℤ) (n i : ℕ) (s : ℤ × ℤ) (e : HeadSeries) (head : List HeadSeries) → IsKeptHead floor head → slice_get head i ≡ Some e → int_lt s.0 floor ≡ false → MayKeep floor (replaced i (grown n s e) head)
keep-replaced floor n i s e head h at a =
    elim (int_lt s.0 e.newest.0) as (λ b. int_lt s.0 e.newest.0 ≡ b → MayKeep floor (replaced i (if b then None else if int_eq s.0 e.newest.0 then (if int_eq s.1 e.newest.1 then Some e else None) else if nat_le max_samples (length e.samples) then None else Some (with_last n s e)) head)) [
      | true ↦ λ p. tt
      | false ↦ λ p. elim (int_eq s.0 e.newest.0) as (λ b. int_eq s.0 e.newest.0 ≡ b → MayKeep floor (replaced i (if b then (if int_eq s.1 e.newest.1 then Some e else None) else if nat_le max_samples (length e.samples) then None else Some (with_last n s e)) head)) [
        | true ↦ λ q. elim (int_eq s.1 e.newest.1) as (λ b. MayKeep floor (replaced i (if b then Some e else None) head)) [ true ↦ keep-same floor i e head h at | false ↦ tt ]
        | false ↦ λ q. elim (nat_le max_samples (length e.samples)) as (λ b. MayKeep floor (replaced i (if b then None else Some (with_last n s e)) head)) [ true ↦ tt | false ↦ keep-set floor n i s e head h at a p q ]
      ] refl
    ] refl

keep-placed : (floor : ℤ) (room : Bool) (n : ℕ) (x : Entry) (head : List HeadSeries) → IsKeptHead floor head → int_lt x.1.0 floor ≡ false → MayKeep floor (placed room n x head)
keep-placed floor room n x head h a =
    elim (place_in x.0 (label_sets head)) as (λ o. place_in x.0 (label_sets head) ≡ o → MayKeep floor (placed room n x head)) [
      | None ↦ λ p. subst (MayKeep floor) (sym (placed_last room n x head p)) (keep-begun floor room n x head h p a)
      | Some i ↦ λ p.
          let below = place_below x.0 (label_sets head) i p in
          let many = sets_many head in
          let w = got head i (omega (arith, below, many)) in
          subst (MayKeep floor) (sym (placed_at room n x head i w.0 p w.1)) (keep-replaced floor n i x.1 w.0 head h w.1 a)
    ] refl

keep-added : (floor : ℤ) (n : ℕ) (x : Entry) (head : List HeadSeries) → IsKeptHead floor head → MayKeep floor (added n floor x head)
keep-added floor n x head h =
    elim (int_lt x.1.0 floor) as (λ b. int_lt x.1.0 floor ≡ b → MayKeep floor (if b then None else placed (has_room head) n x head)) [
      | true ↦ λ p. tt
      | false ↦ λ p. keep-placed floor (has_room head) n x head h p
    ] refl

keep-each : (floor : ℤ) (n : ℕ) (xs : List Entry) (o : Option (List HeadSeries)) → MayKeep floor o → MayKeep floor (added_each n floor o xs)
keep-each floor n [] o h = h
keep-each floor n (x ∷ xs) None h = tt
keep-each floor n (x ∷ xs) (Some head) h = keep-each floor n xs (added n floor x head) (keep-added floor n x head h)

-- of an option's state
abbrev pub MayBeKept : Option State → Type 0
MayBeKept None = Unit {0}
MayBeKept (Some s) = IsKept s

keep-batch : (s : State) (o : Option (List HeadSeries)) → IsKept s → MayKeep s.floor o → MayBeKept (with_head s o)
keep-batch s None k h = tt
keep-batch s (Some head) k h = record { apart = h.apart; sound = h.sound; above = h.above; below = k.below }

abbrev pub IsKeptWith : State → Option (List HeadSeries) → Type 0
IsKeptWith s None = Unit {0}
IsKeptWith s (Some head) = IsKept (record s { head = head })

kept-with : (s : State) (o : Option (List HeadSeries)) → ((l : Labels) (t : ℤ) → int_lt t s.floor ≡ false → in_parts l t s.blocks ≡ None) → MayKeep s.floor o → IsKeptWith s o
kept-with s None below h = tt
kept-with s (Some head) below h = record { apart = h.apart; sound = h.sound; above = h.above; below = below }

pub keep-with : (s : State) (n : ℕ) (x : Entry) (head : List HeadSeries) → IsKept (record s { head = head }) → IsKeptWith s (added n s.floor x head)
keep-with s n x head k = kept-with s (added n s.floor x head) k.below (keep-added s.floor n x head (record { apart = k.apart; sound = k.sound; above = k.above }))

-- DELETIONS

filter-above : (floor : ℤ) (p : Born → Bool) (ks : List Born) → T (list_all (λ (k : ℤ × ℤ). not (int_lt k.0 floor)) (samples_of ks)) → T (list_all (λ (k : ℤ × ℤ). not (int_lt k.0 floor)) (samples_of (filter p ks)))
filter-above floor p [] h = tt
filter-above floor p (k ∷ ks) h =
    let rest = filter-above floor p ks (second_T _ _ h) in
    elim (p k) as (λ b. T (list_all (λ (k : ℤ × ℤ). not (int_lt k.0 floor)) (samples_of (cond b (k ∷ filter p ks) (filter p ks))))) [ true ↦ both_T _ _ (first_T _ _ h) rest | false ↦ rest ]

struck-above : (floor : ℤ) (sat : Labels → Bool) (a b : ℤ) (e : HeadSeries) → IsAbove floor e → IsAbove floor (struck_series sat a b e)
struck-above floor sat a b e h = elim (sat e.labels) as (λ v. IsAbove floor (if v then record e { samples = filter (λ (k : Born). not (in_range a b k.1.0)) e.samples } else e)) [
  | true ↦ filter-above floor (λ (k : Born). not (in_range a b k.1.0)) e.samples h
  | false ↦ h
]

all-map : (P : HeadSeries → Type 0) (f : HeadSeries → HeadSeries) → ((e : HeadSeries) → P e → P (f e)) → (xs : List HeadSeries) → AllByRecursion P xs → AllByRecursion P (map f xs)
all-map P f g [] h = tt
all-map P f g (x ∷ xs) h = (g x h.0, all-map P f g xs h.1)

nothing : (b : Bool) → cond {A = Option ℤ} b None None ≡ None
nothing true = refl
nothing false = refl

keep-deleted : (s : State) (sat : Labels → Bool) (a b : ℤ) → IsKept s → IsKept (deleted sat a b s)
keep-deleted s sat a b k = record {
  apart = subst AreApart (sym (sets_struck sat a b s.head)) k.apart;
  sound = all-map IsSoundSeries (struck_series sat a b) (sound_struck sat a b) s.head k.sound;
  above = all-map (IsAbove s.floor) (struck_series sat a b) (struck-above s.floor sat a b) s.head k.above;
  below = λ l t h. parts-struck sat a b l t s.blocks ∙ ap (λ x. cond (not (sat l && in_range a b t)) x None) (k.below l t h) ∙ nothing (not (sat l && in_range a b t));
}

-- CUTS

all-filter : (P : HeadSeries → Type 0) (p : HeadSeries → Bool) (xs : List HeadSeries) → AllByRecursion P xs → AllByRecursion P (filter p xs)
all-filter P p [] h = tt
all-filter P p (x ∷ xs) h = let rest = all-filter P p xs h.1 in elim (p x) as (λ b. AllByRecursion P (cond b (x ∷ filter p xs) (filter p xs))) [ true ↦ (h.0, rest) | false ↦ rest ]

rest-above : (t : ℤ) (ks : List Born) → T (list_all (λ (k : ℤ × ℤ). not (int_lt k.0 t)) (samples_of (filter (λ (k : Born). not (int_lt k.1.0 t)) ks)))
rest-above t [] = tt
rest-above t (k ∷ ks) =
    let rest = rest-above t ks in
    elim (not (int_lt k.1.0 t)) as (λ b. not (int_lt k.1.0 t) ≡ b → T (list_all (λ (j : ℤ × ℤ). not (int_lt j.0 t)) (samples_of (cond b (k ∷ filter (λ (j : Born). not (int_lt j.1.0 t)) ks) (filter (λ (j : Born). not (int_lt j.1.0 t)) ks))))) [
      | true ↦ λ e. both_T _ _ (T_of _ e) rest
      | false ↦ λ e. rest
    ] refl

all-rest : (t : ℤ) (xs : List HeadSeries) → AllByRecursion (IsAbove t) (map (rest_of t) xs)
all-rest t [] = tt
all-rest t (e ∷ es) = (rest-above t e.samples, all-rest t es)

-- nothing that leaves lies at the time or later
leaving-none : (u : ℤ) (l : Labels) (t : ℤ) (head : List HeadSeries) → int_lt t u ≡ false → in_rows l t (rows_by (leaving u) head) ≡ None
leaving-none u l t [] late = refl
leaving-none u l t (e ∷ es) late =
    ap (cond (same_labels l e.labels) (at_time t (leaving u e))) (leaving-none u l t es late)
    ∙ ap (λ x. cond (same_labels l e.labels) x None) (at-kept (λ (x : ℤ). int_lt x u) t e.samples ∙ ap (λ b. cond b (at_time t (samples_of e.samples)) None) late)
    ∙ nothing (same_labels l e.labels)

true_false : true ≡ false → ⊥
true_false h = cc

later_than : (f t q : ℤ) → int_lt f t ≡ true → int_lt q t ≡ false → int_lt q f ≡ false
later_than f t q a b = elim (int_lt q f) as (λ c. int_lt q f ≡ c → c ≡ false) [
  | true ↦ λ e. absurd (true_false (sym (lt_of q t (int_cmp_total.trans q f t (less_of q f e) (less_of f t a))) ∙ b))
  | false ↦ λ e. refl
] refl

keep-raised : (s : State) (t : ℤ) (blocks : List Part) → IsKept s → ((l : Labels) (q : ℤ) → int_lt q t ≡ false → in_parts l q blocks ≡ None) → IsKept (record (raised t s) { blocks = blocks })
keep-raised s t blocks k below = record {
  apart = subst AreApart (sym (sets_rest t (filter (stays t) s.head))) (apart-filter (stays t) s.head k.apart);
  sound = all-map IsSoundSeries (rest_of t) (λ e h. sound_kept (λ (j : Born). not (int_lt j.1.0 t)) e h) (filter (stays t) s.head) (all-filter IsSoundSeries (stays t) s.head k.sound);
  above = all-rest t (filter (stays t) s.head);
  below = below;
}

keep-blocks : (s : State) (t : ℤ) (rows : List Row) → int_lt s.floor t ≡ true → IsKept s → rows_below t [] s.head ≡ rows → MayBeKept (with_blocks (raised t s) (with_block rows s.blocks))
keep-blocks s t [] up k is = keep-raised s t s.blocks k (λ l q h. k.below l q (later_than s.floor t q up h))
keep-blocks s t (r ∷ rs) up k is =
    elim (nat_le max_blocks (length s.blocks)) as (λ b. MayBeKept (with_blocks (raised t s) (if b then None else Some (s.blocks ++ numbered 1 (r ∷ rs) ∷ [])))) [
      | true ↦ tt
      | false ↦ keep-raised s t (s.blocks ++ numbered 1 (r ∷ rs) ∷ []) k (λ l q h.
          parts-append l q s.blocks (numbered 1 (r ∷ rs))
          ∙ ap (λ rows. or_else (in_rows l q rows) (in_parts l q s.blocks)) (rows_back 1 (r ∷ rs) ∙ sym is)
          ∙ ap (λ x. or_else x (in_parts l q s.blocks)) (below-is t l q s.head k.apart ∙ leaving-none t l q s.head h)
          ∙ k.below l q (later_than s.floor t q up h))
    ]

pub keep_next : (s : State) (e : Event) → IsKept s → MayBeKept (stepped s e)
keep_next s (batch runs) k =
    keep-batch s (added_each (s.number + 1) s.floor (Some s.head) (entries_of runs)) k
    (keep-each s.floor (s.number + 1) (entries_of runs) (Some s.head) (record { apart = k.apart; sound = k.sound; above = k.above }))
keep_next s (deletion ms a b) k = keep-deleted s (satisfies_all ms) a b k
keep_next s (cut t) k =
    elim (int_lt s.floor t) as (λ b. int_lt s.floor t ≡ b → MayBeKept (if b then with_blocks (raised t s) (with_block (rows_below t [] s.head) s.blocks) else None)) [
      | true ↦ λ up. keep-blocks s t (rows_below t [] s.head) up k refl
      | false ↦ λ up. tt
    ] refl
