-- A cut, in the store and in the replay.
use Rattle.std.proofs.Common.{◌≡◌, ℕ, ℤ, ◌+◌, Bool, true, false, not, cond, T, List, [], ◌∷◌, ◌++◌, Option, Some, None, Ok, Err, map, filter, length, nat_le, refl, sym, ap, subst, ◌∙◌, int_lt, arith, length-append}
use Rattle.std.specs.Prelude.{◌&&◌, if◌then◌else◌}
use Rattle.std.specs.List.{list_all, AllByRecursion}
use Rattle.std.specs.declared.cmp.Ordering.TheVariants.{Less, Equal, Greater}
use Rattle.std.specs.Ordering.{int_cmp, is_eq, eq_by_cmp}
use Rattle.std.specs.Cmp.{tied_itself}
use Rattle.std.specs.FinMap.Entries.{find, put, by_order, find-where_key}
use Rattle.std.proofs.lemmas.Cmp.{int_cmp_total}
use Rattle.labels.specs.Labels.{Labels, Point, point_cmp, labels_cmp}
use Rattle.labels.specs.Contents.{Content, between}
use Rattle.labels.specs.Rows.{Row}
use Rattle.labels.specs.Parts.{Part, rows_in}
use Rattle.labels.proofs.OrderLaws.{point_total, point_exact, same_self}
use Rattle.labels.proofs.Times.{both_T, first_T, second_T, T_of}
use Rattle.head.specs.Refusals.{limit, too_many_parts, cut_too_low}
use Rattle.head.specs.Worlds.{World, Newest, cut_off, cut_at}
use Rattle.head.specs.Worlds as worlds
use Rattle.kept_walk.specs.Kept.{cut}
use Rattle.kept_world.specs.States.{Born, HeadSeries, State, numbered, samples_of, leaving, gathered, stays, rest_of, raised, with_block, with_blocks, rows_below, max_blocks, stepped}
use Rattle.kept_laws.specs.Likeness.{or_else, at_time, in_rows, in_parts, value_at, newest_of, IsLike, IsKept, AgreesButLimits}
use Rattle.kept_laws.proofs.Leaving.{or-none, rows_by, kept, parted, below-is, kept-none}

newest-stays : (t : ℤ) (head : List HeadSeries) → newest_of (map (rest_of t) (filter (stays t) head)) ≡ filter (λ (e : Labels × (ℤ × ℤ)). not (int_lt e.1.0 t)) (newest_of head)
newest-stays t [] = refl
newest-stays t (e ∷ es) =
    elim (stays t e) as (λ v. newest_of (map (rest_of t) (cond v (e ∷ filter (stays t) es) (filter (stays t) es))) ≡ cond v ((e.labels, e.newest) ∷ filter (λ (e : Labels × (ℤ × ℤ)). not (int_lt e.1.0 t)) (newest_of es)) (filter (λ (e : Labels × (ℤ × ℤ)). not (int_lt e.1.0 t)) (newest_of es))) [
      | true ↦ ap (λ (r : Newest). (e.labels, e.newest) ∷ r) (newest-stays t es)
      | false ↦ newest-stays t es
    ]

-- WHAT IS FOUND BEHIND A CUT

or-assoc : (a b c : Option ℤ) → or_else (or_else a b) c ≡ or_else a (or_else b c)
or-assoc None b c = refl
or-assoc (Some v) b c = refl

-- a point of the state, by what stays, what leaves, and the blocks
value-parted : (s : State) (t : ℤ) (l : Labels) (q : ℤ) → IsKept s → value_at s l q ≡ or_else (in_rows l q (kept t s.head)) (or_else (in_rows l q (rows_below t [] s.head)) (in_parts l q s.blocks))
value-parted s t l q k =
    ap (λ x. or_else x (in_parts l q s.blocks)) (sym (parted t l q s.head k.apart k.sound))
    ∙ or-assoc (in_rows l q (kept t s.head)) (in_rows l q (rows_by (leaving t) s.head)) (in_parts l q s.blocks)
    ∙ ap (λ x. or_else (in_rows l q (kept t s.head)) (or_else x (in_parts l q s.blocks))) (sym (below-is t l q s.head k.apart))

pub rows_back : (n : ℕ) (rows : List Row) → rows_in (numbered n rows) ≡ rows
rows_back n [] = refl
rows_back n (r ∷ rs) = ap (λ xs. r ∷ xs) (rows_back (n + 1) rs)

pub parts-append : (l : Labels) (q : ℤ) (ps : List Part) (p : Part) → in_parts l q (ps ++ p ∷ []) ≡ or_else (in_rows l q (rows_in p)) (in_parts l q ps)
parts-append l q [] p = sym (or-none (in_rows l q (rows_in p)))
parts-append l q (b ∷ bs) p =
    ap (λ x. or_else x (in_rows l q (rows_in b))) (parts-append l q bs p)
    ∙ or-assoc (in_rows l q (rows_in p)) (in_parts l q bs) (in_rows l q (rows_in b))

-- no row leaves
like-raised : (s : State) (w : World) (t : ℤ) → IsLike s w → IsKept s → rows_below t [] s.head ≡ [] → IsLike (raised t s) (worlds.raised w t)
like-raised s w t h k none = record {
  sorted = h.sorted;
  floor = refl;
  newest = newest-stays t s.head ∙ ap (filter (λ (e : Labels × (ℤ × ℤ)). not (int_lt e.1.0 t))) h.newest;
  blocks = h.blocks;
  content = λ l q.
      h.content l q ∙ value-parted s t l q k
      ∙ ap (λ rows. or_else (in_rows l q (kept t s.head)) (or_else (in_rows l q rows) (in_parts l q s.blocks))) none;
}

-- one more block
like-block : (s : State) (w : World) (t : ℤ) → IsLike s w → IsKept s → IsLike (record (raised t s) { blocks = s.blocks ++ numbered 1 (rows_below t [] s.head) ∷ [] }) (record (worlds.raised w t) { blocks = w.blocks + 1 })
like-block s w t h k = record {
  sorted = h.sorted;
  floor = refl;
  newest = newest-stays t s.head ∙ ap (filter (λ (e : Labels × (ℤ × ℤ)). not (int_lt e.1.0 t))) h.newest;
  blocks = let b = h.blocks in let n = length-append s.blocks (numbered 1 (rows_below t [] s.head) ∷ []) in omega (arith, b, n);
  content = λ l q.
      h.content l q ∙ value-parted s t l q k
      ∙ ap (or_else (in_rows l q (kept t s.head)))
      (ap (λ rows. or_else (in_rows l q rows) (in_parts l q s.blocks)) (sym (rows_back 1 (rows_below t [] s.head)))
      ∙ sym (parts-append l q s.blocks (numbered 1 (rows_below t [] s.head))));
}

-- WHETHER SOMETHING LEAVES

true_false : true ≡ false → ⊥
true_false h = cc

point_self : (q : Point) → eq_by_cmp point_cmp q q ≡ true
point_self q = ap is_eq (tied_itself point_total q)

-- a content in which nothing is found has nothing
nothing_found : (es : Content) → ((q : Point) → find point_cmp q es ≡ None) → es ≡ []
nothing_found [] h = refl
nothing_found (e ∷ es) h =
    let k : Some e.1 ≡ None = sym (ap (λ b. cond b (Some e.1) (find point_cmp e.0 es)) (point_self e.0)) ∙ h e.0 in
    absurd (some_none e.1 k)
  where
    some_none : (v : ℤ) → Some v ≡ None → ⊥
    some_none v h = cc

abbrev leaves : ℤ → ℤ → Point → Bool
leaves floor t p = not (int_lt p.1 floor) && int_lt p.1 t

find-between : (floor t : ℤ) (q : Point) (c : Content) → find point_cmp q (between floor t c) ≡ cond (leaves floor t q) (find point_cmp q c) None
find-between floor t q c = find-where_key point_cmp (leaves floor t) q (λ x e. ap (leaves floor t) (sym (point_exact q x e))) c

-- what is found from the floor up to the time is what leaves
found-leaving : (s : State) (w : World) (t : ℤ) (l : Labels) (q : ℤ) → IsLike s w → IsKept s → int_lt q s.floor ≡ false → int_lt q t ≡ true → find point_cmp (l, q) w.content ≡ in_rows l q (rows_below t [] s.head)
found-leaving s w t l q h k above low =
    h.content l q ∙ value-parted s t l q k
    ∙ ap (λ x. or_else x (or_else (in_rows l q (rows_below t [] s.head)) (in_parts l q s.blocks))) (kept-none t l q s.head low)
    ∙ ap (or_else (in_rows l q (rows_below t [] s.head))) (k.below l q above)
    ∙ or-none (in_rows l q (rows_below t [] s.head))

pub none_leaves : (s : State) (w : World) (t : ℤ) → IsLike s w → IsKept s → rows_below t [] s.head ≡ [] → between w.floor t w.content ≡ []
none_leaves s w t h k none =
    nothing_found (between w.floor t w.content) (λ q.
    find-between w.floor t q w.content
    ∙ elim (int_lt q.1 w.floor) as (λ a. int_lt q.1 w.floor ≡ a → cond (not a && int_lt q.1 t) (find point_cmp q w.content) None ≡ None) [
      | true ↦ λ e. refl
      | false ↦ λ e. elim (int_lt q.1 t) as (λ b. int_lt q.1 t ≡ b → cond (true && b) (find point_cmp q w.content) None ≡ None) [
        | true ↦ λ f. found-leaving s w t q.0 q.1 h k (ap (int_lt q.1) h.floor ∙ e) f ∙ ap (in_rows q.0 q.1) none
        | false ↦ λ f. refl
      ] refl
    ] refl)

-- rows that leave: each has a sample, and all lie from the floor up to the time
record IsLeft (floor t : ℤ) (r : Row) : Type 0 where
  some : r.1 ≡ [] → ⊥
  times : T (list_all (λ (k : ℤ × ℤ). not (int_lt k.0 floor) && int_lt k.0 t) r.1)

left-put : (floor t : ℤ) (l : Labels) (ss : List (ℤ × ℤ)) (rows : List Row) → IsLeft floor t (l, ss) → AllByRecursion (IsLeft floor t) rows → AllByRecursion (IsLeft floor t) (put labels_cmp l ss rows)
left-put floor t l ss [] a h = (a, tt)
left-put floor t l ss (r ∷ rs) a h =
    elim (labels_cmp l r.0) as (λ o. AllByRecursion (IsLeft floor t) (by_order o ((l, ss) ∷ r ∷ rs) ((r.0, ss) ∷ rs) (r ∷ put labels_cmp l ss rs))) [
      | Less ↦ (a, h)
      | Equal ↦ (record { some = a.some; times = a.times }, h.1)
      | Greater ↦ (h.0, left-put floor t l ss rs a h.1)
    ]

left-gathered : (floor t : ℤ) (l : Labels) (ss : List (ℤ × ℤ)) (rows : List Row) → T (list_all (λ (k : ℤ × ℤ). not (int_lt k.0 floor) && int_lt k.0 t) ss) → AllByRecursion (IsLeft floor t) rows → AllByRecursion (IsLeft floor t) (gathered l ss rows)
left-gathered floor t l [] rows a h = h
left-gathered floor t l (s ∷ ss) rows a h = left-put floor t l (s ∷ ss) rows (record { some = λ e. cc; times = a }) h

left-samples : (floor t : ℤ) (ks : List Born) → T (list_all (λ (k : ℤ × ℤ). not (int_lt k.0 floor)) (samples_of ks)) → T (list_all (λ (k : ℤ × ℤ). not (int_lt k.0 floor) && int_lt k.0 t) (samples_of (filter (λ (k : Born). int_lt k.1.0 t) ks)))
left-samples floor t [] h = tt
left-samples floor t (k ∷ ks) h =
    let rest = left-samples floor t ks (second_T _ _ h) in
    elim (int_lt k.1.0 t) as (λ b. int_lt k.1.0 t ≡ b → T (list_all (λ (j : ℤ × ℤ). not (int_lt j.0 floor) && int_lt j.0 t) (samples_of (cond b (k ∷ filter (λ (j : Born). int_lt j.1.0 t) ks) (filter (λ (j : Born). int_lt j.1.0 t) ks))))) [
      | true ↦ λ e. both_T _ _ (both_T _ _ (first_T _ _ h) (T_of _ e)) rest
      | false ↦ λ e. rest
    ] refl

left-below : (floor t : ℤ) (rows : List Row) (head : List HeadSeries) → AllByRecursion (λ (e : HeadSeries). T (list_all (λ (k : ℤ × ℤ). not (int_lt k.0 floor)) (samples_of e.samples))) head → AllByRecursion (IsLeft floor t) rows → AllByRecursion (IsLeft floor t) (rows_below t rows head)
left-below floor t rows [] above h = h
left-below floor t rows (e ∷ es) above h = left-below floor t (gathered e.labels (leaving t e) rows) es above.1 (left-gathered floor t e.labels (leaving t e) rows (left-samples floor t e.samples above.0) h)

-- at the time of the first of some samples there is one
at-first : (k : ℤ × ℤ) (ks : List (ℤ × ℤ)) → (v : ℤ) × (at_time k.0 (k ∷ ks) ≡ Some v)
at-first k ks = elim (at_time k.0 ks) as (λ o. (v : ℤ) × (or_else o (cond (eq_by_cmp int_cmp k.0 k.0) (Some k.1) None) ≡ Some v)) [
  | None ↦ (k.1, ap (λ b. cond b (Some k.1) None) (ap is_eq (tied_itself int_cmp_total k.0)))
  | Some v ↦ (v, refl)
]

pub some_leaves : (s : State) (w : World) (t : ℤ) (r : Row) (rs : List Row) → IsLike s w → IsKept s → rows_below t [] s.head ≡ r ∷ rs → between w.floor t w.content ≡ [] → ⊥
some_leaves s w t (l, []) rs h k is none =
    let left : AllByRecursion (IsLeft s.floor t) ((l, []) ∷ rs) = subst (AllByRecursion (IsLeft s.floor t)) is (left-below s.floor t [] s.head k.above tt) in
    left.0.some refl
some_leaves s w t (l, a ∷ ss) rs h k is none =
    let left : AllByRecursion (IsLeft s.floor t) ((l, a ∷ ss) ∷ rs) = subst (AllByRecursion (IsLeft s.floor t)) is (left-below s.floor t [] s.head k.above tt) in
    let times = first_T _ _ left.0.times in
    let above : int_lt a.0 s.floor ≡ false = not_true (int_lt a.0 s.floor) (first_T _ _ times) in
    let low : int_lt a.0 t ≡ true = true_of (int_lt a.0 t) (second_T _ _ times) in
    let at = at-first a ss in
    let found : find point_cmp (l, a.0) w.content ≡ Some at.0 =
    found-leaving s w t l a.0 h k above low ∙ ap (in_rows l a.0) is
    ∙ ap (λ b. cond b (at_time a.0 (a ∷ ss)) (in_rows l a.0 rs)) (same_self l) ∙ at.1 in
    let leaving_is : leaves w.floor t (l, a.0) ≡ true =
    ap (λ f. not (int_lt a.0 f) && int_lt a.0 t) (sym h.floor) ∙ ap (λ b. not b && int_lt a.0 t) above ∙ low in
    let there : Some at.0 ≡ None =
    sym (find-between w.floor t (l, a.0) w.content ∙ ap (λ b. cond b (find point_cmp (l, a.0) w.content) None) leaving_is ∙ found)
    ∙ ap (find point_cmp (l, a.0)) none in
    some_none at.0 there
  where
    some_none : (v : ℤ) → Some v ≡ None → ⊥
    some_none v e = cc

    not_true : (b : Bool) → T (not b) → b ≡ false
    not_true true e = absurd e
    not_true false e = refl

    true_of : (b : Bool) → T b → b ≡ true
    true_of true e = refl
    true_of false e = absurd e

-- CUTS

cut-off : (fits : Content → Bool) (s : State) (w : World) (t : ℤ) (rows : List Row) (gone : Content) → IsLike s w → IsKept s → rows_below t [] s.head ≡ rows → between w.floor t w.content ≡ gone → AgreesButLimits (cut_off fits w t gone) (with_blocks (raised t s) (with_block rows s.blocks))
cut-off fits s w t [] [] h k is gone = like-raised s w t h k is
cut-off fits s w t [] (g ∷ gs) h k is gone = absurd (let e : g ∷ gs ≡ [] = sym gone ∙ none_leaves s w t h k is in cc)
cut-off fits s w t (r ∷ rs) [] h k is gone = absurd (some_leaves s w t r rs h k is gone)
cut-off fits s w t (r ∷ rs) (g ∷ gs) h k is gone =
    let new = record (raised t s) { blocks = s.blocks ++ numbered 1 (r ∷ rs) ∷ [] } in
    let made = record (worlds.raised w t) { blocks = w.blocks + 1 } in
    let like : IsLike new made = subst (λ rows. IsLike (record (raised t s) { blocks = s.blocks ++ numbered 1 rows ∷ [] }) made) is (like-block s w t h k) in
    subst (λ n. AgreesButLimits (if nat_le 63 n then Err too_many_parts else if fits (g ∷ gs) then Ok made else Err limit) (with_blocks (raised t s) (if nat_le max_blocks (length s.blocks) then None else Some (s.blocks ++ numbered 1 (r ∷ rs) ∷ [])))) h.blocks
    (elim (nat_le 63 (length s.blocks)) as (λ b. AgreesButLimits (if b then Err too_many_parts else if fits (g ∷ gs) then Ok made else Err limit) (with_blocks (raised t s) (if b then None else Some (s.blocks ++ numbered 1 (r ∷ rs) ∷ [])))) [
      | true ↦ tt
      | false ↦ elim (fits (g ∷ gs)) as (λ b. AgreesButLimits (if b then Ok made else Err limit) (Some new)) [ true ↦ like | false ↦ tt ]
    ])

pub cuts_agree : (fits : Content → Bool) (s : State) (w : World) (t : ℤ) → IsLike s w → IsKept s → AgreesButLimits (cut_at fits w t) (stepped s (cut t))
cuts_agree fits s w t h k =
    subst (λ f. AgreesButLimits (cut_at fits w t) (if int_lt f t then with_blocks (raised t s) (with_block (rows_below t [] s.head) s.blocks) else None)) (sym h.floor)
    (elim (int_lt w.floor t) as (λ b. AgreesButLimits (if b then cut_off fits w t (between w.floor t w.content) else Err cut_too_low) (if b then with_blocks (raised t s) (with_block (rows_below t [] s.head) s.blocks) else None)) [
      | true ↦ cut-off fits s w t (rows_below t [] s.head) (between w.floor t w.content) h k refl refl
      | false ↦ tt
    ])
