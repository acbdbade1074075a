-- A sample of a batch, in the store and in the replay.
use Rattle.std.proofs.Common.{◌≡◌, ℕ, ℤ, suc, ◌+◌, Bool, true, false, cond, List, [], ◌∷◌, ◌++◌, Option, Some, None, Result, Ok, Err, length, map, nat_le, nat_lt, not, refl, sym, ap, subst, ◌∙◌, int_lt, arith}
use Rattle.std.specs.Prelude.{◌&&◌, ◌||◌, if◌then◌else◌}
use Rattle.std.specs.declared.cmp.Ordering.{Ordering}
use Rattle.std.specs.declared.cmp.Ordering.TheVariants.{Less, Equal, Greater}
use Rattle.std.specs.Ordering.{int_eq, int_cmp, ordering_then, eq_by_cmp, is_eq}
use Rattle.std.specs.Cmp.{Equal-is}
use Rattle.std.specs.FinMap.Entries.{find, find-put, is_sorted-put}
use Rattle.std.proofs.lemmas.List.{map-append}
use Rattle.labels.specs.Labels.{Labels, point_cmp, labels_cmp, same_labels}
use Rattle.labels.specs.Contents.{held_from}
use Rattle.labels.specs.Rows.{Row}
use Rattle.labels.proofs.OrderLaws.{labels_exact, same_self, point_total}
use Rattle.head.specs.Refusals.{Refusal, limit, out_of_bounds, out_of_order, duplicate}
use Rattle.head.specs.Worlds.{World, Newest, with_newest, with_sample, added_to, is_full, committed}
use Rattle.head.specs.Worlds as worlds
use Rattle.kept_walk.specs.Kept.{batch}
use Rattle.kept_world.specs.States.{Born, HeadSeries, State, Entry, shown, shown_row, with_last, grown, new_series, placed, has_room, max_series, max_samples, before_all, behind, added, added_each, entries_of, with_head, stepped}
use Rattle.kept_laws.specs.Likeness.{or_else, at_time, in_rows, in_parts, newest_of, IsLike, IsKept, Agrees}
use Rattle.kept_laws.proofs.Holding.{count_in, held-is}
use Rattle.kept_laws.proofs.Keeping.{IsKeptWith, keep-with}

-- one sample more
at-last : (t : ℤ) (ks : List (ℤ × ℤ)) (k : (ℤ × ℤ)) → at_time t (ks ++ k ∷ []) ≡ cond (eq_by_cmp int_cmp t k.0) (Some k.1) (at_time t ks)
at-last t [] k = refl
at-last t (j ∷ ks) k =
    let d = cond (eq_by_cmp int_cmp t j.0) (Some j.1) None in
    ap (λ r. or_else r d) (at-last t ks k)
    ∙ elim (eq_by_cmp int_cmp t k.0) as (λ b. or_else (cond b (Some k.1) (at_time t ks)) d ≡ cond b (Some k.1) (or_else (at_time t ks) d)) [ true ↦ refl | false ↦ refl ]

at-with_last : (t : ℤ) (n : ℕ) (s : (ℤ × ℤ)) (e : HeadSeries) → at_time t (shown_row (with_last n s e)).1 ≡ cond (eq_by_cmp int_cmp t s.0) (Some s.1) (at_time t (shown_row e).1)
at-with_last t n s e = ap (at_time t) (map-append (λ (k : Born). k.1) e.samples ((n, s) ∷ [])) ∙ at-last t (shown_row e).1 s

both : (r q : Ordering) (v x y : Option ℤ) → cond (is_eq r) (cond (is_eq q) v x) y ≡ cond (is_eq (ordering_then r q)) v (cond (is_eq r) x y)
both Less q v x y = refl
both Equal q v x y = refl
both Greater q v x y = refl

-- a head with one sample more
abbrev pub after : ℕ → Entry → List HeadSeries → List HeadSeries
after n x [] = new_series n x ∷ []
after n x (e ∷ es) = cond (same_labels x.0 e.labels) (with_last n x.1 e ∷ es) (e ∷ after n x es)

abbrev pub newest_in : Labels → List HeadSeries → Option (ℤ × ℤ)
newest_in l [] = None
newest_in l (e ∷ es) = cond (same_labels l e.labels) (Some e.newest) (newest_in l es)

-- by the newest sample of its label set; a new series needs room, a series that is full takes none
abbrev pub by_newest : Bool → Bool → Option (ℤ × ℤ) → ℤ × ℤ → List HeadSeries → List HeadSeries → Option (List HeadSeries)
by_newest room full None s head new = if room then Some new else None
by_newest room full (Some m) s head new =
    if int_lt s.0 m.0 then None
    else if int_eq s.0 m.0 then (if int_eq s.1 m.1 then Some head else None)
    else if full then None
    else Some new

front : (room : Bool) (n : ℕ) (s : ℤ × ℤ) (e : HeadSeries) (es : List HeadSeries) → before_all (grown n s e) es ≡ by_newest room (nat_le max_samples (length e.samples)) (Some e.newest) s (e ∷ es) (with_last n s e ∷ es)
front room n s e es =
    elim (int_lt s.0 e.newest.0) as (λ a. before_all (if a then None else if int_eq s.0 e.newest.0 then (if int_eq s.1 e.newest.1 then Some e else None) else if nat_le max_samples (length e.samples) then None else Some (with_last n s e)) es ≡ (if a then None else if int_eq s.0 e.newest.0 then (if int_eq s.1 e.newest.1 then Some (e ∷ es) else None) else if nat_le max_samples (length e.samples) then None else Some (with_last n s e ∷ es))) [
      | true ↦ refl
      | false ↦ elim (int_eq s.0 e.newest.0) as (λ b. before_all (if b then (if int_eq s.1 e.newest.1 then Some e else None) else if nat_le max_samples (length e.samples) then None else Some (with_last n s e)) es ≡ (if b then (if int_eq s.1 e.newest.1 then Some (e ∷ es) else None) else if nat_le max_samples (length e.samples) then None else Some (with_last n s e ∷ es))) [
        | true ↦ elim (int_eq s.1 e.newest.1) as (λ d. before_all (if d then Some e else None) es ≡ (if d then Some (e ∷ es) else None)) [ true ↦ refl | false ↦ refl ]
        | false ↦ elim (nat_le max_samples (length e.samples)) as (λ d. before_all (if d then None else Some (with_last n s e)) es ≡ (if d then None else Some (with_last n s e ∷ es))) [ true ↦ refl | false ↦ refl ]
      ]
    ]

under : (room full : Bool) (m : Option (ℤ × ℤ)) (s : ℤ × ℤ) (e : HeadSeries) (head new : List HeadSeries) → behind e (by_newest room full m s head new) ≡ by_newest room full m s (e ∷ head) (e ∷ new)
under true full None s e head new = refl
under false full None s e head new = refl
under room full (Some m) s e head new =
    elim (int_lt s.0 m.0) as (λ a. behind e (if a then None else if int_eq s.0 m.0 then (if int_eq s.1 m.1 then Some head else None) else if full then None else Some new) ≡ (if a then None else if int_eq s.0 m.0 then (if int_eq s.1 m.1 then Some (e ∷ head) else None) else if full then None else Some (e ∷ new))) [
      | true ↦ refl
      | false ↦ elim (int_eq s.0 m.0) as (λ b. behind e (if b then (if int_eq s.1 m.1 then Some head else None) else if full then None else Some new) ≡ (if b then (if int_eq s.1 m.1 then Some (e ∷ head) else None) else if full then None else Some (e ∷ new))) [
        | true ↦ elim (int_eq s.1 m.1) as (λ d. behind e (if d then Some head else None) ≡ (if d then Some (e ∷ head) else None)) [ true ↦ refl | false ↦ refl ]
        | false ↦ elim full as (λ d. behind e (if d then None else Some new) ≡ (if d then None else Some (e ∷ new))) [ true ↦ refl | false ↦ refl ]
      ]
    ]

pub placed-is : (room : Bool) (n : ℕ) (x : Entry) (head : List HeadSeries) → placed room n x head ≡ by_newest room (nat_le max_samples (count_in x.0 head)) (newest_in x.0 head) x.1 head (after n x head)
placed-is room n x [] = refl
placed-is room n x (e ∷ es) =
    elim (same_labels x.0 e.labels) as (λ b. (if b then before_all (grown n x.1 e) es else behind e (placed room n x es)) ≡ by_newest room (nat_le max_samples (cond b (length e.samples) (count_in x.0 es))) (cond b (Some e.newest) (newest_in x.0 es)) x.1 (e ∷ es) (cond b (with_last n x.1 e ∷ es) (e ∷ after n x es))) [
      | true ↦ front room n x.1 e es
      | false ↦ ap (behind e) (placed-is room n x es) ∙ under room (nat_le max_samples (count_in x.0 es)) (newest_in x.0 es) x.1 e es (after n x es)
    ]

pub find-newest : (l : Labels) (head : List HeadSeries) → find labels_cmp l (newest_of head) ≡ newest_in l head
find-newest l [] = refl
find-newest l (e ∷ es) = ap (cond (same_labels l e.labels) (Some e.newest)) (find-newest l es)

pub newest-after : (n : ℕ) (x : Entry) (head : List HeadSeries) → newest_of (after n x head) ≡ with_newest x.0 x.1 (newest_of head)
newest-after n x [] = refl
newest-after n x (e ∷ es) =
    elim (same_labels x.0 e.labels) as (λ b. newest_of (cond b (with_last n x.1 e ∷ es) (e ∷ after n x es)) ≡ (if b then (e.labels, x.1) ∷ newest_of es else (e.labels, e.newest) ∷ with_newest x.0 x.1 (newest_of es))) [
      | true ↦ refl
      | false ↦ ap (λ (r : Newest). (e.labels, e.newest) ∷ r) (newest-after n x es)
    ]

nothing : (b : Bool) → cond {A = Option ℤ} b None None ≡ None
nothing true = refl
nothing false = refl

-- another label set's test
not_here : (l : Labels) (t : ℤ) (x : Entry) (m : Labels) → same_labels x.0 m ≡ false → l ≡ m → eq_by_cmp point_cmp (l, t) (x.0, x.1.0) ≡ false
not_here l t x m h q =
    elim (labels_cmp l x.0) as (λ r. labels_cmp l x.0 ≡ r → is_eq (ordering_then r (int_cmp t x.1.0)) ≡ false) [
      | Less ↦ λ e. refl
      | Equal ↦ λ e. let z : x.0 ≡ m = sym (labels_exact l x.0 e) ∙ q in let w : true ≡ false = sym (same_self x.0) ∙ ap (same_labels x.0) z ∙ h in cc
      | Greater ↦ λ e. refl
    ] refl

apart : (l : Labels) (t : ℤ) (x : Entry) (m : Labels) (v y : Option ℤ) → same_labels x.0 m ≡ false → cond (is_eq (labels_cmp l m)) v (cond (eq_by_cmp point_cmp (l, t) (x.0, x.1.0)) (Some x.1.1) y) ≡ cond (eq_by_cmp point_cmp (l, t) (x.0, x.1.0)) (Some x.1.1) (cond (is_eq (labels_cmp l m)) v y)
apart l t x m v y h =
    elim (labels_cmp l m) as (λ r. labels_cmp l m ≡ r → cond (is_eq r) v (cond (eq_by_cmp point_cmp (l, t) (x.0, x.1.0)) (Some x.1.1) y) ≡ cond (eq_by_cmp point_cmp (l, t) (x.0, x.1.0)) (Some x.1.1) (cond (is_eq r) v y)) [
      | Less ↦ λ e. refl
      | Equal ↦ λ e. ap (λ b. cond b (Some x.1.1) v) (sym (not_here l t x m h (labels_exact l m e)))
      | Greater ↦ λ e. refl
    ] refl

-- what is found at a point of a head with one sample more
pub part-after : (n : ℕ) (x : Entry) (head : List HeadSeries) (l : Labels) (t : ℤ) → in_rows l t (shown (after n x head)) ≡ cond (eq_by_cmp point_cmp (l, t) (x.0, x.1.0)) (Some x.1.1) (in_rows l t (shown head))
part-after n x [] l t = both (labels_cmp l x.0) (int_cmp t x.1.0) (Some x.1.1) None None ∙ ap (λ z. cond (eq_by_cmp point_cmp (l, t) (x.0, x.1.0)) (Some x.1.1) z) (nothing (is_eq (labels_cmp l x.0)))
part-after n x (e ∷ es) l t =
    elim (same_labels x.0 e.labels) as (λ b. same_labels x.0 e.labels ≡ b → in_rows l t (shown (cond b (with_last n x.1 e ∷ es) (e ∷ after n x es))) ≡ cond (eq_by_cmp point_cmp (l, t) (x.0, x.1.0)) (Some x.1.1) (in_rows l t (shown (e ∷ es)))) [
      | true ↦ λ h.
          let q : e.labels ≡ x.0 = sym (labels_exact x.0 e.labels ((Equal-is (labels_cmp x.0 e.labels)).0 h)) in
          ap (λ z. cond (is_eq (labels_cmp l e.labels)) z (in_rows l t (shown es))) (at-with_last t n x.1 e)
          ∙ both (labels_cmp l e.labels) (int_cmp t x.1.0) (Some x.1.1) (at_time t (shown_row e).1) (in_rows l t (shown es))
          ∙ ap (λ i. cond (is_eq (ordering_then (labels_cmp l i) (int_cmp t x.1.0))) (Some x.1.1) (in_rows l t (shown (e ∷ es)))) q
      | false ↦ λ h. ap (cond (is_eq (labels_cmp l e.labels)) (at_time t (shown_row e).1)) (part-after n x es l t) ∙ apart l t x e.labels (at_time t (shown_row e).1) (in_rows l t (shown es)) h
    ] refl

over : (b : Bool) (v : ℤ) (x y : Option ℤ) → or_else (cond b (Some v) x) y ≡ cond b (Some v) (or_else x y)
over true v x y = refl
over false v x y = refl

-- a sample that joins
pub joins : (s : State) (w : World) (n : ℕ) (x : Entry) → IsLike s w → IsLike (record s { head = after n x s.head }) (with_sample w x.0 x.1)
joins s w n x h = record {
  sorted = is_sorted-put point_cmp point_total (x.0, x.1.0) x.1.1 w.content h.sorted;
  floor = h.floor;
  newest = newest-after n x s.head ∙ ap (with_newest x.0 x.1) h.newest;
  blocks = h.blocks;
  content = λ l t.
      find-put point_cmp point_total (l, t) (x.0, x.1.0) x.1.1 w.content
      ∙ ap (cond (eq_by_cmp point_cmp (l, t) (x.0, x.1.0)) (Some x.1.1)) (h.content l t)
      ∙ sym (over (eq_by_cmp point_cmp (l, t) (x.0, x.1.0)) x.1.1 (in_rows l t (shown s.head)) (in_parts l t s.blocks))
      ∙ ap (λ z. or_else z (in_parts l t s.blocks)) (sym (part-after n x s.head l t));
}

abbrev pub HeadAgrees : State → Result World Refusal → Option (List HeadSeries) → Type 0
HeadAgrees s (Ok w) (Some head) = IsLike (record s { head = head }) w
HeadAgrees s (Ok w) None = ⊥
HeadAgrees s (Err e) (Some head) = ⊥
HeadAgrees s (Err e) None = Unit {0}

at_limit : (s : State) (v : World) (full : Bool) (new : List HeadSeries) → IsLike (record s { head = new }) v → HeadAgrees s (if full then Err limit else Ok v) (if full then None else Some new)
at_limit s v true new h = tt
at_limit s v false new h = h

begun : (s : State) (v : World) (room : Bool) (new : List HeadSeries) → IsLike (record s { head = new }) v → HeadAgrees s (if not room then Err limit else Ok v) (if room then Some new else None)
begun s v true new h = h
begun s v false new h = tt

-- whether there is no room (E4), by the newest sample
abbrev full_by : Option (ℤ × ℤ) → Bool → Bool → Bool
full_by None room full = not room
full_by (Some m) room full = full

judged : (s : State) (w : World) (at : ℕ) (l : Labels) (k : ℤ × ℤ) (m : Option (ℤ × ℤ)) (room full : Bool) (new : List HeadSeries) → is_full w l m ≡ full_by m room full → IsLike s w → IsLike (record s { head = new }) (with_sample w l k) → HeadAgrees s (added_to w at l k m) (if int_lt k.0 w.floor then None else by_newest room full m k s.head new)
judged s w at l k None room full new is h j =
    elim (int_lt k.0 w.floor) as (λ a. HeadAgrees s (if a then Err (out_of_bounds at) else if is_full w l None then Err limit else Ok (with_sample w l k)) (if a then None else if room then Some new else None)) [
      | true ↦ tt
      | false ↦ subst (λ f. HeadAgrees s (if f then Err limit else Ok (with_sample w l k)) (if room then Some new else None)) (sym is) (begun s (with_sample w l k) room new j)
    ]
judged s w at l k (Some m) room full new is h j =
    elim (int_lt k.0 w.floor) as (λ a. HeadAgrees s (if a then Err (out_of_bounds at) else if int_lt k.0 m.0 then Err (out_of_order at) else if int_eq k.0 m.0 && int_eq k.1 m.1 then Ok w else if int_eq k.0 m.0 then Err (duplicate at) else if is_full w l (Some m) then Err limit else Ok (with_sample w l k)) (if a then None else by_newest room full (Some m) k s.head new)) [
      | true ↦ tt
      | false ↦ elim (int_lt k.0 m.0) as (λ b. HeadAgrees s (if b then Err (out_of_order at) else if int_eq k.0 m.0 && int_eq k.1 m.1 then Ok w else if int_eq k.0 m.0 then Err (duplicate at) else if is_full w l (Some m) then Err limit else Ok (with_sample w l k)) (if b then None else if int_eq k.0 m.0 then (if int_eq k.1 m.1 then Some s.head else None) else if full then None else Some new)) [
        | true ↦ tt
        | false ↦ elim (int_eq k.0 m.0) as (λ d. HeadAgrees s (if d && int_eq k.1 m.1 then Ok w else if d then Err (duplicate at) else if is_full w l (Some m) then Err limit else Ok (with_sample w l k)) (if d then (if int_eq k.1 m.1 then Some s.head else None) else if full then None else Some new)) [
          | true ↦ elim (int_eq k.1 m.1) as (λ g. HeadAgrees s (if true && g then Ok w else Err (duplicate at)) (if g then Some s.head else None)) [ true ↦ h | false ↦ tt ]
          | false ↦ subst (λ f. HeadAgrees s (if f then Err limit else Ok (with_sample w l k)) (if full then None else Some new)) (sym is) (at_limit s (with_sample w l k) full new j)
        ]
      ]
    ]

length-map : {A B : Type 0} (f : A → B) (xs : List A) → length (map f xs) ≡ length xs
length-map f [] = refl
length-map f (x ∷ xs) = ap suc (length-map f xs)

crowded : (a b : ℕ) → a ≡ b → nat_le max_series a ≡ not (nat_lt b max_series)
crowded a b is =
    elim (nat_lt b max_series) as (λ c. nat_lt b max_series ≡ c → nat_le max_series a ≡ not c) [
      | true ↦ λ h. grind (arith, h, is)
      | false ↦ λ h. grind (arith, h, is)
    ] refl

absent-count : (l : Labels) (head : List HeadSeries) → newest_in l head ≡ None → count_in l head ≡ 0
absent-count l [] h = refl
absent-count l (e ∷ es) h =
    elim (same_labels l e.labels) as (λ b. cond b (Some e.newest) (newest_in l es) ≡ None → cond b (length e.samples) (count_in l es) ≡ 0) [
      | true ↦ λ k. absurd (let z : Some e.newest ≡ None = k in cc)
      | false ↦ λ k. absent-count l es k
    ] h

or-false : (b c : Bool) → c ≡ false → (b || c) ≡ b
or-false true c h = refl
or-false false c h = h

-- the counts of E4 are the same
full-is : (s : State) (w : World) (l : Labels) (m : Option (ℤ × ℤ)) → IsLike s w → IsKept s → newest_in l s.head ≡ m → is_full w l m ≡ full_by m (has_room s.head) (nat_le max_samples (count_in l s.head))
full-is s w l None h k is =
    let held : nat_le max_samples (held_from w.floor l w.content) ≡ false = ap (nat_le max_samples) (held-is s w l h k ∙ absent-count l s.head is) in
    or-false (nat_le max_series (length w.newest)) (nat_le max_samples (held_from w.floor l w.content)) held
    ∙ crowded (length w.newest) (length s.head) (ap length (sym h.newest) ∙ length-map (λ (e : HeadSeries). (e.labels, e.newest)) s.head)
full-is s w l (Some m) h k is = ap (nat_le max_samples) (held-is s w l h k)

pub added-agrees : (s : State) (w : World) (n at : ℕ) (x : Entry) → IsLike s w → IsKept s → HeadAgrees s (worlds.added w at x) (added n s.floor x s.head)
added-agrees s w n at x h k =
    let m = newest_in x.0 s.head in
    let room = has_room s.head in
    let full = nat_le max_samples (count_in x.0 s.head) in
    let e : find labels_cmp x.0 w.newest ≡ m = ap (find labels_cmp x.0) (sym h.newest) ∙ find-newest x.0 s.head in
    let o : added n s.floor x s.head ≡ (if int_lt x.1.0 w.floor then None else by_newest room full m x.1 s.head (after n x s.head)) =
    ap (λ f. if int_lt x.1.0 f then None else placed room n x s.head) h.floor
    ∙ ap (λ r. if int_lt x.1.0 w.floor then None else r) (placed-is room n x s.head) in
    subst (λ o. HeadAgrees s (added_to w at x.0 x.1 o) (added n s.floor x s.head)) (sym e)
    (subst (HeadAgrees s (added_to w at x.0 x.1 m)) (sym o)
    (judged s w at x.0 x.1 m room full (after n x s.head) (full-is s w x.0 m h k refl) h (joins s w n x h)))

each-agrees : (s : State) (at n : ℕ) (xs : List Entry) (r : Result World Refusal) (o : Option (List HeadSeries)) → IsKeptWith s o → HeadAgrees s r o → HeadAgrees s (worlds.added_each r at xs) (added_each n s.floor o xs)
each-agrees s at n [] r o k h = h
each-agrees s at n (x ∷ xs) (Err e) None k h = tt
each-agrees s at n (x ∷ xs) (Err e) (Some head) k h = absurd h
each-agrees s at n (x ∷ xs) (Ok w) None k h = absurd h
each-agrees s at n (x ∷ xs) (Ok w) (Some head) k h =
    each-agrees s (at + 1) n xs (worlds.added w at x) (added n s.floor x head) (keep-with s n x head k) (added-agrees (record s { head = head }) w n at x h k)

state-agrees : (s : State) (r : Result World Refusal) (o : Option (List HeadSeries)) → HeadAgrees s r o → Agrees r (with_head s o)
state-agrees s (Ok w) None h = absurd h
state-agrees s (Ok w) (Some head) h = record { floor = h.floor; newest = h.newest; blocks = h.blocks; content = h.content; sorted = h.sorted }
state-agrees s (Err e) None h = tt
state-agrees s (Err e) (Some head) h = absurd h

pub batches_agree : (s : State) (w : World) (runs : List Row) → IsLike s w → IsKept s → Agrees (committed w (entries_of runs)) (stepped s (batch runs))
batches_agree s w runs h k =
    state-agrees s (committed w (entries_of runs)) (added_each (s.number + 1) s.floor (Some s.head) (entries_of runs))
    (each-agrees s 0 (s.number + 1) (entries_of runs) (Ok w) (Some s.head) k h)
