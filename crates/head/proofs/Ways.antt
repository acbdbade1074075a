-- A sift on its way.
use Rattle.std.specs.Prelude.{Result, Ok, Err, ◌||◌, ◌≡◌, ◌<◌, ◌≤◌, ℕ, suc, ℤ, ◌+◌, Bool, true, false, T, List, [], ◌∷◌, ◌++◌, Option, None, Some, IfNone, IfSome, IsTrue, ◌≢◌, ◌*◌, refl, map, nat_le, length, slice_index_or}
use Rattle.std.specs.List.{list_all}
use Rattle.std.proofs.Common.{inl, inr, sym, ◌∙◌, ap, subst, arith, append_assoc, append-nil, drop}
use Rattle.std.proofs.Math.Seq.{drop-cons}
use Rattle.std.proofs.Math.ListN.{drop_of_length-le}
use Rattle.std.proofs.lemmas.Bool.{leb-false, leb-true, le-leb}
use Rattle.std.proofs.lemmas.List.{map-append}
use Rattle.head.specs.declared.judge.Met.{Met}
use Rattle.head.specs.declared.judge.Met.TheVariants.{Joins, Held, Refused}
use Rattle.head.specs.declared.left.Reason.{Reason}
use Rattle.head.specs.declared.left.Reason.TheVariants.{OutOfBounds, OutOfOrder, Duplicate, Limit}
use Rattle.head.specs.declared.left.Left.{Left}
use Rattle.labels.specs.Labels.{Labels}
use Rattle.labels.specs.Rows.{Row}
use Rattle.labels.specs.Contents.{is_time}
use Rattle.labels.proofs.Times.{both_T, first_T, second_T, T_of}
use Rattle.head.specs.Limits.{max_series}
use Rattle.head.specs.Worlds.{World, Batch, is_repeated}
use Rattle.head.specs.Refusals.{Refusal}
use Rattle.std.specs.Ordering.{int_cmp}
use Rattle.std.specs.FinMap.Entries.{find}
use Rattle.head.specs.Sifting.{has_value, Fate, joins, held, left_out, fate, Sifted, sifted}
use Rattle.head.specs.Laws.{IsPartOf, reason_of, reasons}
use Rattle.head.specs.Taking.{head_added, head_added_each, extended, place_from}
use Rattle.head.specs.BatchRows.{pairs_with, batch_of_rows}
use Rattle.head.specs.Heads.{HeadSeries, SnapshotParts, IsSoundSnapshot, series_at, world_of}
use Rattle.head.specs.Batches.{is_batch, has_set, set_count}
use Rattle.head.specs.Slots.{Slot, Shared, series_in_each, owned, AllOwn, AddsNoOwnBut}
use Rattle.head.specs.Known.{known_of, samples_or}
use Rattle.head.specs.Meeting.{IsMet, met, told, is_there, judged_at, has_no_room, standing, newest_standing, samples_standing, snapshot_has, snapshot_value}
use Rattle.head.specs.Telling.{counted, told_of, first_or, with_last, total}
use Rattle.head.specs.OnWay.{IsOnWay, IsSiftedTo, with_slots}
use Rattle.head.proofs.Steps.{Item}
use Rattle.head.proofs.Sifts.{first_by, alike}
use Rattle.head.proofs.RowSteps.{split_all}
use Rattle.head.proofs.SlotLaws.{length-each, series_shared, AllOwn-shared, owned-shared}
use Rattle.head.proofs.Counting.{owned_within, has_each, copied_within}
use Rattle.head.proofs.Meets.{met_is, joined_is, judged_step, step_joins, told_joins, not_held, standing_is, has_room}
use Rattle.head.proofs.Places.{stands_at}

pub joins_of : (f : Fate) → IsMet Joins f → (v : World) × (f ≡ joins v)
joins_of (joins v) m = (v, refl)
joins_of held m = absurd m
joins_of (left_out e) m = absurd m

pub held_of : (f : Fate) → IsMet Held f → f ≡ held
held_of (joins v) m = absurd m
held_of held m = refl
held_of (left_out e) m = absurd m

pub left_of : (c : Reason) (f : Fate) → IsMet (Refused c) f → (e : Refusal) × (f ≡ left_out e) × (reason_of e ≡ c)
left_of c (joins v) m = absurd m
left_of c held m = absurd m
left_of c (left_out e) m = (e, refl, m)

-- one code more behind all others
counted_twice : (c d : Reason) (t : Left) → record (counted d (record (counted c t) { first = first_or t.first c })) { first = Some d } ≡ record (counted c (record (counted d t) { first = Some d })) { first = Some d }
counted_twice OutOfBounds OutOfBounds t = refl
counted_twice OutOfBounds OutOfOrder t = refl
counted_twice OutOfBounds Duplicate t = refl
counted_twice OutOfBounds Limit t = refl
counted_twice OutOfOrder OutOfBounds t = refl
counted_twice OutOfOrder OutOfOrder t = refl
counted_twice OutOfOrder Duplicate t = refl
counted_twice OutOfOrder Limit t = refl
counted_twice Duplicate OutOfBounds t = refl
counted_twice Duplicate OutOfOrder t = refl
counted_twice Duplicate Duplicate t = refl
counted_twice Duplicate Limit t = refl
counted_twice Limit OutOfBounds t = refl
counted_twice Limit OutOfOrder t = refl
counted_twice Limit Duplicate t = refl
counted_twice Limit Limit t = refl

one_first : (c : Reason) → told_of (c ∷ []) ≡ with_last c (told_of [])
one_first OutOfBounds = refl
one_first OutOfOrder = refl
one_first Duplicate = refl
one_first Limit = refl

pub told_of-snoc : (cs : List Reason) (c : Reason) → told_of (cs ++ c ∷ []) ≡ with_last c (told_of cs)
told_of-snoc [] c = one_first c
told_of-snoc (d ∷ cs) c = ap (λ (t : Left). record (counted d t) { first = Some d }) (told_of-snoc cs c) ∙ counted_twice c d (told_of cs)

pub total-with_last : (c : Reason) (t : Left) → total (with_last c t) ≡ total t + 1
total-with_last OutOfBounds t = omega arith
total-with_last OutOfOrder t = omega arith
total-with_last Duplicate t = omega arith
total-with_last Limit t = omega arith

-- a sample is met
pub way_joins : (first : World) (all : Batch) (w v : World) (x : Item) (rest kept : Batch) (left : Left) → fate w 0 x ≡ joins v → IsOnWay first all w (x ∷ rest) kept left → IsOnWay first all v rest (kept ++ x ∷ []) left
way_joins first all w v x rest kept left e h =
    let s = first_by w 0 x rest (joins v) e in
    let a = alike v (0 + 1) 0 rest in
    record {
      world = sym a.world ∙ sym (ap (λ (z : Sifted). z.world) s) ∙ h.world;
      kept_first = append_assoc kept (x ∷ []) (sifted v rest).kept ∙ ap (λ (k : Batch). kept ++ x ∷ k) (sym a.kept) ∙ sym (ap (λ (z : Sifted). kept ++ z.kept) s) ∙ h.kept_first;
      out = h.out;
      told = h.told;
      reasons_first = ap (λ (k : List Reason). h.out ++ k) (sym a.reasons) ∙ sym (ap (λ (z : Sifted). h.out ++ reasons z.left) s) ∙ h.reasons_first;
    }

pub way_held : (first : World) (all : Batch) (w : World) (x : Item) (rest kept : Batch) (left : Left) → fate w 0 x ≡ held → IsOnWay first all w (x ∷ rest) kept left → IsOnWay first all w rest kept left
way_held first all w x rest kept left e h =
    let s = first_by w 0 x rest held e in
    let a = alike w (0 + 1) 0 rest in
    record {
      world = sym a.world ∙ sym (ap (λ (z : Sifted). z.world) s) ∙ h.world;
      kept_first = ap (λ (k : Batch). kept ++ k) (sym a.kept) ∙ sym (ap (λ (z : Sifted). kept ++ z.kept) s) ∙ h.kept_first;
      out = h.out;
      told = h.told;
      reasons_first = ap (λ (k : List Reason). h.out ++ k) (sym a.reasons) ∙ sym (ap (λ (z : Sifted). h.out ++ reasons z.left) s) ∙ h.reasons_first;
    }

pub way_left : (first : World) (all : Batch) (w : World) (x : Item) (rest kept : Batch) (left : Left) (r : Refusal) → fate w 0 x ≡ left_out r → IsOnWay first all w (x ∷ rest) kept left → IsOnWay first all w rest kept (with_last (reason_of r) left)
way_left first all w x rest kept left r e h =
    let s = first_by w 0 x rest (left_out r) e in
    let a = alike w (0 + 1) 0 rest in
    record {
      world = sym a.world ∙ sym (ap (λ (z : Sifted). z.world) s) ∙ h.world;
      kept_first = ap (λ (k : Batch). kept ++ k) (sym a.kept) ∙ sym (ap (λ (z : Sifted). kept ++ z.kept) s) ∙ h.kept_first;
      out = h.out ++ reason_of r ∷ [];
      told = ap (with_last (reason_of r)) h.told ∙ sym (told_of-snoc h.out (reason_of r));
      reasons_first = append_assoc h.out (reason_of r ∷ []) (reasons (sifted w rest).left) ∙ ap (λ (k : List Reason). h.out ++ reason_of r ∷ k) (sym a.reasons) ∙ sym (ap (λ (z : Sifted). h.out ++ reasons z.left) s) ∙ h.reasons_first;
    }

-- what joined, with one more
pub pairs-snoc : (kept : Batch) (l : Labels) (ss : List (ℤ × ℤ)) (s : ℤ × ℤ) → (kept ++ pairs_with l ss) ++ (l, s) ∷ [] ≡ kept ++ pairs_with l (ss ++ s ∷ [])
pairs-snoc kept l ss s = append_assoc kept (pairs_with l ss) ((l, s) ∷ []) ∙ ap (λ (k : Batch). kept ++ k) (sym (map-append (λ (s : ℤ × ℤ). (l, s)) ss (s ∷ [])))

pub rows-snoc : (rows : List Row) (l : Labels) (ss : List (ℤ × ℤ)) → batch_of_rows (rows ++ (l, ss) ∷ []) ≡ batch_of_rows rows ++ pairs_with l ss
rows-snoc [] l ss = append-nil (pairs_with l ss)
rows-snoc (r ∷ rows) l ss = ap (λ (k : Batch). pairs_with r.0 r.1 ++ k) (rows-snoc rows l ss) ∙ sym (append_assoc (pairs_with r.0 r.1) (batch_of_rows rows) (pairs_with l ss))

suc_is : (i : ℕ) → suc i ≡ i + 1
suc_is i = omega arith

-- the samples of a row that are left
pub pairs_next : (l : Labels) (ss : List (ℤ × ℤ)) (i : ℕ) (d : ℤ × ℤ) → i < length ss → pairs_with l (drop i ss) ≡ (l, slice_index_or ss i d) ∷ pairs_with l (drop (i + 1) ss)
pairs_next l ss i d h = ap (pairs_with l) (drop-cons ss i d h) ∙ ap (λ n. (l, slice_index_or ss i d) ∷ pairs_with l (drop n ss)) (suc_is i)

-- one sample more at the head
pub head_each-snoc : (floor : ℤ) (r : Result (List HeadSeries) Refusal) (at : ℕ) (ys : Batch) (x : Item) (h g : List HeadSeries) → head_added_each floor r at ys ≡ Ok h → ((k : ℕ) → head_added floor h k x ≡ Ok g)
    → head_added_each floor r at (ys ++ x ∷ []) ≡ Ok g
head_each-snoc floor r at [] x h g is step = ap (λ (s : Result (List HeadSeries) Refusal). head_added_each floor s at (x ∷ [])) is ∙ step at
head_each-snoc floor (Err e) at (y ∷ ys) x h g is step = absurd (cc is)
head_each-snoc floor (Ok b) at (y ∷ ys) x h g is step = head_each-snoc floor (head_added floor b at y) (at + 1) ys x h g is step

-- a sample joins
met_fate : (s : SnapshotParts) (x : Item) (m : Met) → IsSoundSnapshot s → met s x ≡ m → IsMet m (fate (world_of s) 0 x)
met_fate s x m sound is = subst (λ k. IsMet k (fate (world_of s) 0 x)) is (met_is s 0 x sound)

pub judged_joins : (s : SnapshotParts) (x : Item) → met s x ≡ Joins → judged_at s.floor s.head (series_at x.0 s.head) x.1 ≡ Joins
judged_joins s x is = told_joins (is_there s x) (judged_at s.floor s.head (series_at x.0 s.head) x.1) is

pub sound_joins : (s : SnapshotParts) (slots new : List Slot) (x : Item) → IsSoundSnapshot (with_slots s slots) → met (with_slots s slots) x ≡ Joins
    → series_in_each new ≡ extended x.0 x.1 (series_in_each slots) → IsSoundSnapshot (with_slots s new)
sound_joins s slots new x sound is grew =
    let t = with_slots s slots in
    let j = joins_of (fate (world_of t) 0 x) (met_fate t x Joins sound is) in
    subst (λ (hs : List HeadSeries). IsSoundSnapshot (record s { head = hs })) (sym grew) (joined_is t 0 x j.0 sound j.1).1

pub sifted_joins : (s : SnapshotParts) (all : Batch) (slots new : List Slot) (x : Item) (rest kept : Batch) (left : Left) → IsSoundSnapshot (with_slots s slots) → met (with_slots s slots) x ≡ Joins
    → series_in_each new ≡ extended x.0 x.1 (series_in_each slots) → AddsNoOwnBut x.0 slots new
    → IsSiftedTo s all slots (x ∷ rest) kept left → IsSiftedTo s all new rest (kept ++ x ∷ []) left
sifted_joins s all slots new x rest kept left sound is grew adds h =
    let t = with_slots s slots in
    let j = joins_of (fate (world_of t) 0 x) (met_fate t x Joins sound is) in
    let world : j.0 ≡ world_of (with_slots s new) = (joined_is t 0 x j.0 sound j.1).0 ∙ ap (λ (hs : List HeadSeries). world_of (record s { head = hs })) (sym grew) in
    record {
      way = subst (λ (v : World). IsOnWay (world_of s) all v rest (kept ++ x ∷ []) left) world (way_joins (world_of s) all (world_of t) j.0 x rest kept left j.1 h.way);
      step = head_each-snoc s.floor (Ok s.head) 0 kept x (series_in_each slots) (series_in_each new) h.step
          (λ k. step_joins k (judged_at s.floor (series_in_each slots) (series_at x.0 (series_in_each slots)) x.1) (series_in_each slots) (extended x.0 x.1 (series_in_each slots)) (head_added s.floor (series_in_each slots) k x)
          (judged_joins t x is) (judged_step s.floor (series_in_each slots) k x.0 x.1 (series_at x.0 (series_in_each slots)) refl)
          ∙ ap Ok (sym grew));
      owners = λ p each. let both = split_all (λ z. p z.0) kept (x ∷ []) each in adds p (first_T (p x.0) true both.1) (h.owners p both.0);
    }

-- a sample is held, or left out
pub sifted_held : (s : SnapshotParts) (all : Batch) (slots : List Slot) (x : Item) (rest kept : Batch) (left : Left) → IsSoundSnapshot (with_slots s slots) → met (with_slots s slots) x ≡ Held
    → IsSiftedTo s all slots (x ∷ rest) kept left → IsSiftedTo s all slots rest kept left
sifted_held s all slots x rest kept left sound is h =
    let t = with_slots s slots in
    record {
      way = way_held (world_of s) all (world_of t) x rest kept left (held_of (fate (world_of t) 0 x) (met_fate t x Held sound is)) h.way;
      step = h.step;
      owners = h.owners;
    }

pub sifted_left : (s : SnapshotParts) (all : Batch) (slots : List Slot) (x : Item) (rest kept : Batch) (left : Left) (reason : Reason) → IsSoundSnapshot (with_slots s slots) → met (with_slots s slots) x ≡ Refused reason
    → IsSiftedTo s all slots (x ∷ rest) kept left → IsSiftedTo s all slots rest kept (with_last reason left)
sifted_left s all slots x rest kept left reason sound is h =
    let t = with_slots s slots in
    let l = left_of reason (fate (world_of t) 0 x) (met_fate t x (Refused reason) sound is) in
    subst (λ (r : Reason). IsSiftedTo s all slots rest kept (with_last r left)) l.2
    (record {
      way = way_left (world_of s) all (world_of t) x rest kept left l.0 l.1 h.way;
      step = h.step;
      owners = h.owners;
    })

-- the samples of a row that are left
pub row_next : (s : SnapshotParts) (all : Batch) (old new : List Slot) (l k : Labels) (ss items : List (ℤ × ℤ)) (i : ℕ) (x : ℤ × ℤ) (rest kept : Batch) (mine more : List (ℤ × ℤ)) (left next : Left)
    → k ≡ l → items ≡ ss → i < length items → x ≡ slice_index_or items i x
    → (IsSiftedTo s all old ((k, x) ∷ (pairs_with l (drop (i + 1) ss) ++ rest)) (kept ++ pairs_with k mine) left
    → IsSiftedTo s all new (pairs_with l (drop (i + 1) ss) ++ rest) (kept ++ pairs_with k more) next)
    → IsSiftedTo s all old (pairs_with l (drop i ss) ++ rest) (kept ++ pairs_with l mine) left
    → IsSiftedTo s all new (pairs_with l (drop (i + 1) ss) ++ rest) (kept ++ pairs_with l more) next
row_next s all old new l k ss items i x rest kept mine more left next is same h item step way =
    let there : IsSiftedTo s all old ((l, x) ∷ (pairs_with l (drop (i + 1) ss) ++ rest)) (kept ++ pairs_with l mine) left =
    subst (λ (b : Batch). IsSiftedTo s all old b (kept ++ pairs_with l mine) left)
    (ap (λ (b : Batch). b ++ rest) (pairs_next l ss i x (subst (λ (zs : List (ℤ × ℤ)). i < length zs) same h))
    ∙ ap (λ (y : ℤ × ℤ). (l, y) ∷ (pairs_with l (drop (i + 1) ss) ++ rest)) (ap (λ (zs : List (ℤ × ℤ)). slice_index_or zs i x) (sym same) ∙ sym item))
    way in
    subst (λ (m : Labels). IsSiftedTo s all new (pairs_with l (drop (i + 1) ss) ++ rest) (kept ++ pairs_with m more) next) is
    (step (subst (λ (m : Labels). IsSiftedTo s all old ((m, x) ∷ (pairs_with l (drop (i + 1) ss) ++ rest)) (kept ++ pairs_with m mine) left) (sym is) there))

pub row_done : (s : SnapshotParts) (all : Batch) (slots : List Slot) (l : Labels) (ss : List (ℤ × ℤ)) (i : ℕ) (rest kept : Batch) (left : Left) → length ss ≤ i
    → IsSiftedTo s all slots (pairs_with l (drop i ss) ++ rest) kept left → IsSiftedTo s all slots rest kept left
row_done s all slots l ss i rest kept left h way = subst (λ (zs : List (ℤ × ℤ)). IsSiftedTo s all slots (pairs_with l zs ++ rest) kept left) (drop_of_length-le ss h) way

-- a label set that may have a series more has room for it
pub room_for : (slots : List Slot) (place : Option ℕ) (d : HeadSeries) → has_no_room (series_in_each slots) (standing (series_in_each slots) place d) ≡ false → IfNone place (length slots < max_series)
room_for slots None d e = let few = leb-false max_series (length (series_in_each slots)) e in omega (arith, few, length-each slots)
room_for slots (Some k) d e = tt

-- the place of a label set is within, and no other than the one that is near if its sample is held
pub place_within : (l : Labels) (slots : List Slot) (place : Option ℕ) → place ≡ place_from l 0 (series_in_each slots) → IfSome place (λ k. k < length slots)
place_within l slots None e = tt
place_within l slots (Some k) e = let st = stands_at l (series_in_each slots) k (sym e) in omega (arith, st.below, length-each slots)

pub held_place : (floor : ℤ) (l : Labels) (head : List HeadSeries) (place : Option ℕ) (d : HeadSeries) (near : ℕ) (s : ℤ × ℤ) → place ≡ place_from l 0 head
    → judged_at floor head (standing head place d) s ≡ Held → IfSome place (λ k. near ≡ k) → place_from l 0 head ≡ Some near
held_place floor l head None d near s e is found = absurd (not_held floor head s is)
held_place floor l head (Some k) d near s e is found = sym e ∙ ap Some (sym found)

-- what the store has of a label set at its place
pub value_above_is : (l : Labels) (head : List HeadSeries) (place : Option ℕ) (d : HeadSeries) (t : ℤ) → place ≡ place_from l 0 head → find int_cmp t (samples_standing head place d) ≡ find int_cmp t (samples_or (series_at l head))
value_above_is l head place d t e = ap (λ o. find int_cmp t (samples_or o)) (sym (standing_is l head place d e))

newest_known : (l : Labels) (head : List HeadSeries) (place : Option ℕ) (d : HeadSeries) (x : ℤ × ℤ) → place ≡ place_from l 0 head → is_repeated x (newest_standing head place d) ≡ is_repeated x (known_of (series_at l head))
newest_known l head place d x e = ap (λ o. is_repeated x (known_of o)) (sym (standing_is l head place d e))

pub there_newest : (s : SnapshotParts) (x : Item) (place : Option ℕ) (d : HeadSeries) → place ≡ place_from x.0 0 s.head → true ≡ is_repeated x.1 (newest_standing s.head place d) → true ≡ is_there s x
there_newest s x place d e is = ap (λ b. b || snapshot_has s x) (is ∙ newest_known x.0 s.head place d x.1 e)

pub there_value : (s : SnapshotParts) (x : Item) (place : Option ℕ) (d : HeadSeries) (value : Option ℤ) → place ≡ place_from x.0 0 s.head → false ≡ is_repeated x.1 (newest_standing s.head place d)
    → value ≡ snapshot_value s (x.0, x.1.0) → has_value x.1.1 value ≡ is_there s x
there_value s x place d value e is v = ap (has_value x.1.1) v ∙ ap (λ b. b || snapshot_has s x) (is ∙ newest_known x.0 s.head place d x.1 e)

-- what is met, by what is judged
pub met_by : (s : SnapshotParts) (x : Item) (place : Option ℕ) (d : HeadSeries) (m : Met) → place ≡ place_from x.0 0 s.head → m ≡ judged_at s.floor s.head (standing s.head place d) x.1 → told (is_there s x) m ≡ met s x
met_by s x place d m e is = ap (told (is_there s x)) (is ∙ ap (λ o. judged_at s.floor s.head o x.1) (sym (standing_is x.0 s.head place d e)))

-- a sample that joins has room
pub room_joins : (s : SnapshotParts) (slots : List Slot) (x : Item) (place : Option ℕ) (d : HeadSeries) → place ≡ place_from x.0 0 (series_in_each slots) → met (with_slots s slots) x ≡ Joins → IfNone place (length slots < max_series)
room_joins s slots x place d e is =
    let head : List HeadSeries = series_in_each slots in
    room_for slots place d (ap (has_no_room head) (sym (standing_is x.0 head place d e)) ∙ has_room s.floor head (series_at x.0 head) x.1 (judged_joins (with_slots s slots) x is))

-- nothing joined of a row yet
pub no_pairs : (kept : Batch) (l : Labels) (mine : List (ℤ × ℤ)) → mine ≡ [] → kept ≡ kept ++ pairs_with l mine
no_pairs kept l mine e = sym (ap (λ (ss : List (ℤ × ℤ)). kept ++ pairs_with l ss) e ∙ append-nil kept)

pub some_pairs : (kept : Batch) (l : Labels) (mine : List (ℤ × ℤ)) → mine ≢ [] → kept ++ pairs_with l mine ≡ [] → ⊥
some_pairs kept l [] some e = some refl
some_pairs [] l (s ∷ ss) some e = absurd cc
some_pairs (x ∷ xs) l (s ∷ ss) some e = absurd cc

-- the beginning of a sift
fresh_head : (s : SnapshotParts) (slots : List Slot) → slots ≡ map (λ h. Shared h) s.head → series_in_each slots ≡ s.head
fresh_head s slots e = ap (λ (ss : List Slot). series_in_each ss) e ∙ series_shared s.head

pub fresh : (s : SnapshotParts) (slots : List Slot) → slots ≡ map (λ h. Shared h) s.head → with_slots s slots ≡ s
fresh s slots e = ap (λ (hs : List HeadSeries). record s { head = hs }) (fresh_head s slots e)

pub begun : (s : SnapshotParts) (all : Batch) (slots : List Slot) (left : Left) → slots ≡ map (λ h. Shared h) s.head → left ≡ told_of [] → IsSiftedTo s all slots all [] left
begun s all slots left e none = record {
  way = subst (λ (v : SnapshotParts). IsOnWay (world_of s) all (world_of v) all [] left) (sym (fresh s slots e))
      (record { world = refl; kept_first = refl; out = []; told = none; reasons_first = refl });
  step = ap Ok (sym (fresh_head s slots e));
  owners = λ p each. subst (λ (ss : List Slot). AllOwn p ss) (sym e) (AllOwn-shared p s.head);
}

-- the end of a sift
pub kept_all : (s : SnapshotParts) (all : Batch) (slots : List Slot) (kept : Batch) (left : Left) → IsSiftedTo s all slots [] kept left → kept ≡ (sifted (world_of s) all).kept
kept_all s all slots kept left h = sym (append-nil kept) ∙ h.way.kept_first

pub left_all : (s : SnapshotParts) (all : Batch) (slots : List Slot) (kept : Batch) (left : Left) → IsSiftedTo s all slots [] kept left → left ≡ told_of (reasons (sifted (world_of s) all).left)
left_all s all slots kept left h = h.way.told ∙ ap told_of (sym (append-nil h.way.out) ∙ h.way.reasons_first)

pub copied_few : (s : SnapshotParts) (all : Batch) (first slots : List Slot) (kept : Batch) (left : Left) (copied result : ℕ) → IsSoundSnapshot (with_slots s slots) → first ≡ map (λ h. Shared h) s.head
    → IsSiftedTo s all slots [] kept left → copied + 119 * owned first ≤ 119 * owned slots → result ≡ copied → result ≤ 119 * set_count kept
copied_few s all first slots kept left copied result sound e h counted same =
    copied_within copied (owned first) (owned slots) (set_count kept) result counted (ap (λ (ss : List Slot). owned ss) e ∙ owned-shared s.head)
    (owned_within s.floor slots kept sound.head (h.owners (has_set kept) (has_each kept))) same

-- a part of a batch is a batch
part_few : (ks xs : Batch) → IsPartOf ks xs → length ks ≤ length xs
part_few [] xs h = omega arith
part_few (k ∷ ks) [] h = absurd h
part_few (k ∷ ks) (x ∷ xs) (inl h) = let f = part_few ks xs h.1 in omega (arith, f)
part_few (k ∷ ks) (x ∷ xs) (inr h) = let f = part_few (k ∷ ks) xs h in omega (arith, f)

part_each : (p : Item → Bool) (ks xs : Batch) → IsPartOf ks xs → T (list_all p xs) → T (list_all p ks)
part_each p [] xs h all = tt
part_each p (k ∷ ks) [] h all = absurd h
part_each p (k ∷ ks) (x ∷ xs) (inl h) all = both_T _ _ (subst (λ (z : Item). T (p z)) (sym h.0) (first_T (p x) _ all)) (part_each p ks xs h.1 (second_T (p x) (list_all p xs) all))
part_each p (k ∷ ks) (x ∷ xs) (inr h) all = part_each p (k ∷ ks) xs h (second_T (p x) (list_all p xs) all)

true_of : (b : Bool) → T b → b ≡ true
true_of true h = refl
true_of false h = absurd h

pub part_batch : (ks xs : Batch) → IsPartOf ks xs → IsTrue (is_batch xs) → IsTrue (is_batch ks)
part_batch ks xs h b =
    let all : T (is_batch xs) = T_of (is_batch xs) b in
    let timed : Item → Bool = λ x. is_time x.1.0 in
    let few = leb-true (length xs) 4096 (true_of (nat_le (length xs) 4096) (first_T (nat_le (length xs) 4096) (list_all timed xs) all)) in
    let less = part_few ks xs h in
    true_of (is_batch ks) (both_T (nat_le (length ks) 4096) (list_all timed ks)
    (T_of (nat_le (length ks) 4096) (le-leb (length ks) 4096 (omega (arith, few, less))))
    (part_each timed ks xs h (second_T (nat_le (length xs) 4096) (list_all timed xs) all)))

pub batch_few : (xs : Batch) → IsTrue (is_batch xs) → length xs ≤ 4096
batch_few xs b = leb-true (length xs) 4096 (true_of (nat_le (length xs) 4096) (first_T (nat_le (length xs) 4096) (list_all (λ x. is_time x.1.0) xs) (T_of (is_batch xs) b)))
