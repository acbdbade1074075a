-- Label sets that stand once, and the map of their places.
use Rattle.std.proofs.Common.{◌≡◌, ℕ, zero, suc, ◌+◌, ◌<◌, ◌≤◌, ℤ, Bool, true, false, cond, List, [], ◌∷◌, ◌++◌, Option, Some, None, is_some, IsSome, MatchOption, add-one, length, length-append, map, filter, take, get_or, slice_set, nat_le, refl, sym, ap, subst, ◌∙◌, arith}
use Rattle.std.specs.Prelude.{if◌then◌else◌}
use Rattle.std.specs.BTreeMap.{BTreeMap, get, Updates}
use Rattle.std.specs.Cmp.{Equal-is}
use Rattle.labels.specs.Labels.{Labels, labels_cmp, same_labels}
use Rattle.labels.specs.Rows.{Row}
use Rattle.labels.proofs.OrderLaws.{labels_exact, same_turn}
use Rattle.kept_world.specs.States.{Born, HeadSeries, grown, with_last, struck_series, rest_of, max_samples, max_series}
use Rattle.kept_world.specs.Births.{came_row}
use Rattle.kept_world.specs.Sound.{place_in, next_place, label_sets, AreApart, IsMapOf, IsPlaced}
use Rattle.std.specs.Ordering.{int_eq}
use Rattle.kept_world.proofs.Growing.{take-next}
use Rattle.std.specs.Prelude.{int_lt, not}
use Rattle.labels.specs.Contents.{in_range}

some_none : {A : Type 0} (x : A) → Some x ≡ None → ⊥
some_none x h = cc

pub next_none : (o : Option ℕ) → next_place o ≡ None → o ≡ None
next_none None h = refl
next_none (Some i) h = absurd (some_none (suc i) h)

-- a label set that has no place is neither the first nor among the others
pub not_first : (l m : Labels) (ms : List Labels) → place_in l (m ∷ ms) ≡ None → same_labels l m ≡ false
not_first l m ms h = elim (same_labels l m) as (λ b. (if b then Some zero else next_place (place_in l ms)) ≡ None → b ≡ false) [
  | true ↦ λ q. absurd (some_none zero q)
  | false ↦ λ q. refl
] h

pub not_later : (l m : Labels) (ms : List Labels) → place_in l (m ∷ ms) ≡ None → place_in l ms ≡ None
not_later l m ms h = elim (same_labels l m) as (λ b. (if b then Some zero else next_place (place_in l ms)) ≡ None → place_in l ms ≡ None) [
  | true ↦ λ q. absurd (some_none zero q)
  | false ↦ λ q. next_none (place_in l ms) q
] h

pub none_of : (l m : Labels) (ms : List Labels) → same_labels l m ≡ false → place_in l ms ≡ None → place_in l (m ∷ ms) ≡ None
none_of l m ms h k = ap (λ b. if b then Some zero else next_place (place_in l ms)) h ∙ ap next_place k

-- one more label set behind the others
abbrev pub or_last : Option ℕ → Bool → ℕ → Option ℕ
or_last (Some i) b n = Some i
or_last None b n = if b then Some n else None

or_next : (o : Option ℕ) (b : Bool) (n : ℕ) → next_place (or_last o b n) ≡ or_last (next_place o) b (suc n)
or_next (Some i) b n = refl
or_next None true n = refl
or_next None false n = refl

pub place-append : (q l : Labels) (ls : List Labels) → place_in q (ls ++ l ∷ []) ≡ or_last (place_in q ls) (same_labels q l) (length ls)
place-append q l [] = refl
place-append q l (m ∷ ms) = elim (same_labels q m) as (λ b. (if b then Some zero else next_place (place_in q (ms ++ l ∷ []))) ≡ or_last (if b then Some zero else next_place (place_in q ms)) (same_labels q l) (suc (length ms))) [
  | true ↦ refl
  | false ↦ ap next_place (place-append q l ms) ∙ or_next (place_in q ms) (same_labels q l) (length ms)
]

none-append : (q l : Labels) (ls : List Labels) → place_in q ls ≡ None → same_labels q l ≡ false → place_in q (ls ++ l ∷ []) ≡ None
none-append q l ls h k = place-append q l ls ∙ ap (λ o. or_last o (same_labels q l) (length ls)) h ∙ ap (λ (b : Bool). if b then Some (length ls) else None) k

pub apart-append : (ls : List Labels) (l : Labels) → AreApart ls → place_in l ls ≡ None → AreApart (ls ++ l ∷ [])
apart-append [] l h k = (refl, tt)
apart-append (m ∷ ms) l h k =
    (none-append m l ms h.0 (same_turn m l ∙ not_first l m ms k), apart-append ms l h.1 (not_later l m ms k))

maps_at : (b : Bool) (q l : Labels) (ls : List Labels) (o : Option ℕ) → same_labels l q ≡ b → place_in l ls ≡ None → o ≡ place_in q ls → cond b (Some (length ls)) o ≡ place_in q (ls ++ l ∷ [])
maps_at true q l ls o e none is =
    let same : l ≡ q = labels_exact l q ((Equal-is (labels_cmp l q)).0 e) in
    let turned : same_labels q l ≡ true = same_turn q l ∙ e in
    sym (place-append q l ls ∙ ap (λ p. or_last p (same_labels q l) (length ls)) (ap (λ x. place_in x ls) (sym same) ∙ none)
    ∙ ap (λ (c : Bool). if c then Some (length ls) else None) turned)
maps_at false q l ls o e none is =
    is ∙ sym (place-append q l ls ∙ ap (λ c. or_last (place_in q ls) c (length ls)) (same_turn q l ∙ e) ∙ kept (place_in q ls))
  where
    kept : (p : Option ℕ) → or_last p false (length ls) ≡ p
    kept (Some i) = refl
    kept None = refl

-- the map with the place of one more label set
pub maps-append : (old new : BTreeMap Labels ℕ) (l : Labels) (ls : List Labels) (n : ℕ) → IsMapOf old ls → place_in l ls ≡ None → n ≡ length ls → Updates labels_cmp old new l (Some n) → IsMapOf new (ls ++ l ∷ [])
maps-append old new l ls n maps none len put q =
    put.0 q ∙ ap (λ m. cond (same_labels l q) (Some m) (get labels_cmp old q)) len ∙ maps_at (same_labels l q) q l ls (get labels_cmp old q) refl none (maps q)

pub placed-append : (old new : BTreeMap Labels ℕ) (l : Labels) (ls : List Labels) (n : ℕ) → IsPlaced ls old → place_in l ls ≡ None → n ≡ length ls → n < max_series → Updates labels_cmp old new l (Some n) → IsPlaced (ls ++ l ∷ []) new
placed-append old new l ls n h none len few put = record {
  maps = maps-append old new l ls n h.maps none len put;
  apart = apart-append ls l h.apart none;
  few = let e = length-append ls (l ∷ []) in omega (arith, e, len, few);
}

-- a label set that stands among those before it stands twice
pub stands_twice : (ls : List Labels) (i j : ℕ) (l : Labels) → i < length ls → l ≡ get_or ls i l → place_in l (take i ls) ≡ Some j → AreApart ls → ⊥
stands_twice [] i j l lt is found apart = absurd (omega arith)
stands_twice (m ∷ ms) zero j l lt is found apart = some_none j (sym found)
stands_twice (m ∷ ms) (suc i) j l lt is found apart =
    elim (same_labels l m) as (λ b. same_labels l m ≡ b → (if b then Some zero else next_place (place_in l (take i ms))) ≡ Some j → ⊥) [
      | true ↦ λ e q. differs ms i l m (omega arith) is (same_turn m l ∙ e) apart.0
      | false ↦ λ e q. further (place_in l (take i ms)) q (λ k f. stands_twice ms i k l (omega arith) is f apart.1)
    ] refl found
  where
    further : (o : Option ℕ) → next_place o ≡ Some j → ((k : ℕ) → o ≡ Some k → ⊥) → ⊥
    further None q f = some_none j (sym q)
    further (Some k) q f = f k refl

    differs : (xs : List Labels) (n : ℕ) (x y : Labels) → n < length xs → x ≡ get_or xs n x → same_labels y x ≡ true → place_in y xs ≡ None → ⊥
    differs [] n x y less at same none = absurd (omega arith)
    differs (z ∷ zs) zero x y less at same none = let k : true ≡ false = sym (sym (ap (same_labels y) at) ∙ same) ∙ not_first y z zs none in cc
    differs (z ∷ zs) (suc n) x y less at same none = differs zs n x y (omega arith) at same (not_later y z zs none)

-- WHAT KEEPS LABEL SETS

pub sets_struck : (sat : Labels → Bool) (from to : ℤ) (head : List HeadSeries) → label_sets (map (struck_series sat from to) head) ≡ label_sets head
sets_struck sat from to [] = refl
sets_struck sat from to (e ∷ es) = (λ i. one i ∷ sets_struck sat from to es i)
  where
    one : (struck_series sat from to e).labels ≡ e.labels
    one = elim (sat e.labels) as (λ b. (if b then record e { samples = filter (λ (k : Born). not (in_range from to k.1.0)) e.samples } else e).labels ≡ e.labels) [ true ↦ refl | false ↦ refl ]

pub sets_rest : (t : ℤ) (head : List HeadSeries) → label_sets (map (rest_of t) head) ≡ label_sets head
sets_rest t [] = refl
sets_rest t (e ∷ es) = ap (λ ls. e.labels ∷ ls) (sets_rest t es)

pub sets_came : (p : ℕ) (head : List HeadSeries) → map (λ (r : Row). r.0) (map (came_row p) head) ≡ label_sets head
sets_came p [] = refl
sets_came p (e ∷ es) = ap (λ ls. e.labels ∷ ls) (sets_came p es)

none-filter : (p : HeadSeries → Bool) (l : Labels) (head : List HeadSeries) → place_in l (label_sets head) ≡ None → place_in l (label_sets (filter p head)) ≡ None
none-filter p l [] h = refl
none-filter p l (e ∷ es) h =
    let rest = none-filter p l es (not_later l e.labels (label_sets es) h) in
    elim (p e) as (λ b. place_in l (label_sets (cond b (e ∷ filter p es) (filter p es))) ≡ None) [
      | true ↦ none_of l e.labels (label_sets (filter p es)) (not_first l e.labels (label_sets es) h) rest
      | false ↦ rest
    ]

pub apart-filter : (p : HeadSeries → Bool) (head : List HeadSeries) → AreApart (label_sets head) → AreApart (label_sets (filter p head))
apart-filter p [] h = tt
apart-filter p (e ∷ es) h =
    let rest = apart-filter p es h.1 in
    elim (p e) as (λ b. AreApart (label_sets (cond b (e ∷ filter p es) (filter p es)))) [
      | true ↦ (none-filter p e.labels es h.0, rest)
      | false ↦ rest
    ]

pub few-filter : {A : Type 0} (p : A → Bool) (xs : List A) → length (filter p xs) ≤ length xs
few-filter p [] = omega arith
few-filter p (x ∷ xs) =
    let rest = few-filter p xs in
    elim (p x) as (λ b. length (cond b (x ∷ filter p xs) (filter p xs)) ≤ suc (length xs)) [ true ↦ omega (arith, rest) | false ↦ omega (arith, rest) ]

pub grown_labels : (n : ℕ) (s : ℤ × ℤ) (e new : HeadSeries) → grown n s e ≡ Some new → new.labels ≡ e.labels
grown_labels n s e new h =
    elim (int_lt s.0 e.newest.0) as (λ a. (if a then None else if int_eq s.0 e.newest.0 then (if int_eq s.1 e.newest.1 then Some e else None) else if nat_le max_samples (length e.samples) then None else Some (with_last n s e)) ≡ Some new → new.labels ≡ e.labels) [
      | true ↦ λ q. absurd (some_none new (sym q))
      | false ↦ elim (int_eq s.0 e.newest.0) as (λ b. (if b then (if int_eq s.1 e.newest.1 then Some e else None) else if nat_le max_samples (length e.samples) then None else Some (with_last n s e)) ≡ Some new → new.labels ≡ e.labels) [
        | true ↦ elim (int_eq s.1 e.newest.1) as (λ d. (if d then Some e else None) ≡ Some new → new.labels ≡ e.labels) [
          | true ↦ λ q. let k : e ≡ new = cc in ap (λ (x : HeadSeries). x.labels) (sym k)
          | false ↦ λ q. absurd (some_none new (sym q))
        ]
        | false ↦ elim (nat_le max_samples (length e.samples)) as (λ d. (if d then None else Some (with_last n s e)) ≡ Some new → new.labels ≡ e.labels) [
          | true ↦ λ q. absurd (some_none new (sym q))
          | false ↦ λ q. let k : with_last n s e ≡ new = cc in ap (λ (x : HeadSeries). x.labels) (sym k)
        ]
      ]
    ] h

pub sets_set : (head : List HeadSeries) (i : ℕ) (e new : HeadSeries) → e ≡ get_or head i e → new.labels ≡ e.labels → label_sets (slice_set head i new) ≡ label_sets head
sets_set [] i e new is same = refl
sets_set (x ∷ xs) zero e new is same = ap (λ l. l ∷ label_sets xs) (same ∙ ap (λ (y : HeadSeries). y.labels) is)
sets_set (x ∷ xs) (suc i) e new is same = ap (λ ls. x.labels ∷ ls) (sets_set xs i e new is same)

-- THE FIRST SERIES OF A HEAD

pub is_none : {A : Type 0} (o : Option A) → is_some o ≡ false → o ≡ None
is_none None h = refl
is_none (Some x) h = absurd (let k : true ≡ false = h in cc)

some_of : (o : Option ℕ) → is_some o ≡ true → (j : ℕ) × (o ≡ Some j)
some_of None h = absurd (let k : false ≡ true = h in cc)
some_of (Some j) h = (j, refl)

sets_take : (head : List HeadSeries) (i : ℕ) → label_sets (take i head) ≡ take i (label_sets head)
sets_take head zero = refl
sets_take [] (suc i) = refl
sets_take (e ∷ es) (suc i) = ap (λ ls. e.labels ∷ ls) (sets_take es i)

sets_at : (head : List HeadSeries) (i : ℕ) (e : HeadSeries) → i < length head → e ≡ get_or head i e → e.labels ≡ get_or (label_sets head) i e.labels
sets_at [] i e l is = absurd (omega arith)
sets_at (x ∷ xs) zero e l is = ap (λ (y : HeadSeries). y.labels) is
sets_at (x ∷ xs) (suc i) e l is = sets_at xs i e (omega arith) is

pub sets_many : (head : List HeadSeries) → length (label_sets head) ≡ length head
sets_many [] = refl
sets_many (e ∷ es) = ap suc (sets_many es)

pub stands_twice_at : (head : List HeadSeries) (i : ℕ) (e : HeadSeries) → i < length head → e ≡ get_or head i e → is_some (place_in e.labels (label_sets (take i head))) ≡ true → AreApart (label_sets head) → ⊥
stands_twice_at head i e l is found apart =
    let w = some_of (place_in e.labels (label_sets (take i head))) found in
    let m = sets_many head in
    stands_twice (label_sets head) i w.0 e.labels (omega (arith, m)) (sets_at head i e l is) (ap (place_in e.labels) (sym (sets_take head i)) ∙ w.1) apart

pub sets_next : (head : List HeadSeries) (i : ℕ) (e : HeadSeries) → i < length head → e ≡ get_or head i e → label_sets (take (i + 1) head) ≡ label_sets (take i head) ++ e.labels ∷ []
sets_next head i e l is =
    ap (λ n. label_sets (take n head)) (add-one i)
    ∙ take-next (λ (x : HeadSeries). x.labels) head i e l
    ∙ ap (λ (x : HeadSeries). label_sets (take i head) ++ x.labels ∷ []) (sym is)

pub is_there : (head : List HeadSeries) (i : ℕ) → i ≤ length head → i ≡ length (label_sets (take i head))
is_there head zero l = refl
is_there [] (suc i) l = absurd (omega arith)
is_there (e ∷ es) (suc i) l = ap suc (is_there es i (omega arith))

-- AN OPTION BY ITS CASES

-- a map of places was found, since no label set stands twice
pub places_found : (ls : List Labels) (o : Option (BTreeMap Labels ℕ)) → MatchOption o (AreApart ls → ⊥) (λ places. IsMapOf places ls × AreApart ls) → AreApart ls → IsSome o
places_found ls None h apart = absurd (h apart)
places_found ls (Some x) h apart = refl

pub placed_by : (ls : List Labels) (o : Option (BTreeMap Labels ℕ)) (places : BTreeMap Labels ℕ) → MatchOption o (AreApart ls → ⊥) (λ found. IsMapOf found ls × AreApart ls) → o ≡ Some places → length ls ≤ max_series → IsPlaced ls places
placed_by ls o places h e few =
    let w : IsMapOf places ls × AreApart ls = subst (λ (r : Option (BTreeMap Labels ℕ)). MatchOption r (AreApart ls → ⊥) (λ found. IsMapOf found ls × AreApart ls)) e h in
    record { maps = w.0; apart = w.1; few = few }
