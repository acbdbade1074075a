-- Series in slots.
use Rattle.std.specs.Prelude.{◌≡◌, ◌<◌, ◌≤◌, ◌+◌, ◌*◌, ◌-◌, ℕ, zero, suc, Bool, true, false, not, ◌||◌, T, List, [], ◌∷◌, ◌++◌, Option, None, Some, Result, Ok, Err, is_some, map, length, slice_index_or, slice_set, OnOk, IfOk, refl}
use Rattle.std.specs.List.{list_all}
use Rattle.std.proofs.Common.{sym, ◌∙◌, ap, arith, append_assoc, append-nil, inl, inr}
use Rattle.std.proofs.lemmas.Cmp.{ranked}
use Rattle.std.proofs.lemmas.Bool.{cases_eq}
use Rattle.std.proofs.lemmas.Bool.Decides.{leb_tells}
use Rattle.std.specs.Ordering.{nat_cmp, is_eq}
use Rattle.std.specs.BTreeMap.{BTreeMap, get, is_at}
use Rattle.std.specs.Map.{lookup}
use Rattle.std.specs.declared.cmp.Ordering.{Ordering}
use Rattle.std.specs.declared.cmp.Ordering.TheVariants.{Less, Equal, Greater}
use Rattle.std.proofs.Math.Seq.{map-set_same}
use Rattle.std.proofs.lemmas.List.{length-map, length-append, map-append, map-set, get_or_append_left, get_or-append_right, set-append_left, set-append_right, get_or-map as get_or-map_below}
use Rattle.std.proofs.lemmas.List.Sums.{sum_by-append, sum_by-set}
use Rattle.labels.specs.Labels.{Labels}
use Rattle.labels.proofs.Times.{both_T, first_T, second_T, true_not_false}
use Rattle.head.specs.Heads.{HeadSeries}
use Rattle.head.specs.Orders.{sets_of}
use Rattle.head.specs.Slots.{Slot, Shared, Own, series_in, series_in_each, is_own, own_count, owned, AllOwn, slot_at, slots_from, slots_of}

pub length-each : (slots : List Slot) → length (series_in_each slots) ≡ length slots
length-each slots = length-map slots series_in

pub length-sets : (head : List HeadSeries) → length (sets_of head) ≡ length head
length-sets head = length-map head (λ (h : HeadSeries). h.labels)

pub sets_more : (slots : List Slot) (s : Slot) → sets_of (series_in_each (slots ++ s ∷ [])) ≡ sets_of (series_in_each slots) ++ (series_in s).labels ∷ []
sets_more [] s = refl
sets_more (x ∷ xs) s = ap (λ ls. (series_in x).labels ∷ ls) (sets_more xs s)

-- a slot whose label set stays
pub sets_stay : (slots : List Slot) (k : ℕ) (s d : Slot) → (series_in s).labels ≡ (slice_index_or (series_in_each slots) k (series_in d)).labels → sets_of (series_in_each (slice_set slots k s)) ≡ sets_of (series_in_each slots)
sets_stay slots k s d same =
    ap sets_of (map-set series_in slots k s)
    ∙ map-set_same (λ (h : HeadSeries). h.labels) (series_in_each slots) k (series_in s) (series_in d) same

pub on_ok : {V E : Type 0} {P Q : Type 0} (r : Result V E) → (P → Q) → OnOk r P → OnOk r Q
on_ok (Ok v) f p = f p
on_ok (Err e) f p = tt

-- slots of the last version are none of this one's own
pub owned-shared : (last : List HeadSeries) → owned (map (λ (h : HeadSeries). Shared h) last) ≡ 0
owned-shared [] = refl
owned-shared (h ∷ hs) = owned-shared hs

pub AllOwn-shared : (p : Labels → Bool) (last : List HeadSeries) → AllOwn p (map (λ (h : HeadSeries). Shared h) last)
AllOwn-shared p [] = tt
AllOwn-shared p (h ∷ hs) = AllOwn-shared p hs

or_true : (a : Bool) → T (a || true)
or_true true = tt
or_true false = tt

allowed : (p : Labels → Bool) (s : Slot) → T (p (series_in s).labels) → T (not (is_own s) || p (series_in s).labels)
allowed p (Shared a) h = tt
allowed p (Own a) h = h

pub AllOwn-set : (p : Labels → Bool) (slots : List Slot) (k : ℕ) (s : Slot) → T (p (series_in s).labels) → AllOwn p slots → AllOwn p (slice_set slots k s)
AllOwn-set p [] k s h all = all
AllOwn-set p (x ∷ xs) zero s h all = both_T _ _ (allowed p s h) (second_T _ _ all)
AllOwn-set p (x ∷ xs) (suc k) s h all = both_T _ _ (first_T _ _ all) (AllOwn-set p xs k s h (second_T _ _ all))

pub AllOwn-more : (p : Labels → Bool) (slots : List Slot) (s : Slot) → T (p (series_in s).labels) → AllOwn p slots → AllOwn p (slots ++ s ∷ [])
AllOwn-more p [] s h all = both_T _ _ (allowed p s h) tt
AllOwn-more p (x ∷ xs) s h all = both_T _ _ (first_T _ _ all) (AllOwn-more p xs s h (second_T _ _ all))

-- what is copied for one slot is counted for all
pub counted_more : (slots : List Slot) (k copied : ℕ) (new old : Slot) → k < length slots → old ≡ slice_index_or slots k old → copied + 119 * own_count old ≤ 119 * own_count new → copied + 119 * owned slots ≤ 119 * owned (slice_set slots k new)
counted_more slots k copied new old inside is few =
    let same = ap own_count is in
    let all = sum_by-set own_count slots k new old inside in
    omega arith

pub owned-more : (slots : List Slot) (s : Slot) → owned slots ≤ owned (slots ++ s ∷ [])
owned-more slots s = let all = sum_by-append own_count slots (s ∷ []) in omega arith

pub if_ok : {V E : Type 0} {P Q : V → Type 0} (r : Result V E) → ((v : V) → P v → Q v) → IfOk r P → IfOk r Q
if_ok (Ok v) f p = f v p
if_ok (Err e) f p = tt

pub all_more : {X : Type 0} (q : X → Bool) (xs : List X) (x : X) → T (list_all q xs) → T (q x) → T (list_all q (xs ++ x ∷ []))
all_more q [] x all h = both_T _ _ h tt
all_more q (y ∷ ys) x all h = both_T _ _ (first_T _ _ all) (all_more q ys x (second_T _ _ all) h)

pub both_ok : {V E : Type 0} {P Q R : V → Type 0} (r : Result V E) → ((v : V) → P v → Q v → R v) → IfOk r P → IfOk r Q → IfOk r R
both_ok (Ok v) f p q = f v p q
both_ok (Err e) f p q = tt

-- the slots of a draft
length-from : (n : ℕ) (last : List HeadSeries) (own : ℕ → Option HeadSeries) → length (slots_from n last own) ≡ length last
length-from n [] own = refl
length-from n (h ∷ hs) own = ap suc (length-from (n + 1) hs own)

pub length-slots : (last : List HeadSeries) (own : ℕ → Option HeadSeries) (begun : List HeadSeries) → length (slots_of last own begun) ≡ length last + length begun
length-slots last own begun =
    length-append (slots_from 0 last own) (map (λ (h : HeadSeries). Own h) begun)
    ∙ (λ i. length-from 0 last own i + length-map begun (λ (h : HeadSeries). Own h) i)

from_at : (n k : ℕ) (last : List HeadSeries) (own : ℕ → Option HeadSeries) (s : Slot) (d : HeadSeries) → k < length last → slice_index_or (slots_from n last own) k s ≡ slot_at (slice_index_or last k d) (own (n + k))
from_at n k [] own s d l = absurd (omega (arith, l))
from_at n zero (h ∷ hs) own s d l = let e : n ≡ n + zero = omega arith in ap (λ m. slot_at h (own m)) e
from_at n (suc k) (h ∷ hs) own s d l = let e : (n + 1) + k ≡ n + suc k = omega arith in from_at (n + 1) k hs own s d (omega (arith, l)) ∙ ap (λ m. slot_at (slice_index_or hs k d) (own m)) e

from_zero : (k : ℕ) → 0 + k ≡ k
from_zero k = omega arith

-- the slot of a series of the last version, and that of one that is begun
pub slot_last : (last : List HeadSeries) (own : ℕ → Option HeadSeries) (begun : List HeadSeries) (k : ℕ) (s : Slot) (d : HeadSeries) → k < length last
    → slice_index_or (slots_of last own begun) k s ≡ slot_at (slice_index_or last k d) (own k)
slot_last last own begun k s d l =
    get_or_append_left (slots_from 0 last own) (map (λ (h : HeadSeries). Own h) begun) s k (omega (arith, l, length-from 0 last own))
    ∙ from_at 0 k last own s d l
    ∙ ap (λ m. slot_at (slice_index_or last k d) (own m)) (from_zero k)

pub slot_begun : (last : List HeadSeries) (own : ℕ → Option HeadSeries) (begun : List HeadSeries) (k : ℕ) (s : Slot) (d : HeadSeries) → length last ≤ k → k < length last + length begun
    → slice_index_or (slots_of last own begun) k s ≡ Own (slice_index_or begun (k - length last) d)
slot_begun last own begun k s d low high =
    get_or-append_right (slots_from 0 last own) (map (λ (h : HeadSeries). Own h) begun) (length last) k s (length-from 0 last own) low
    ∙ get_or-map_below (λ (h : HeadSeries). Own h) begun (k - length last) d s (omega (arith, low, high))

same_from : (m : ℕ) (hs : List HeadSeries) (a b : ℕ → Option HeadSeries) → ((q : ℕ) → m ≤ q → a q ≡ b q) → slots_from m hs a ≡ slots_from m hs b
same_from m [] a b all = refl
same_from m (y ∷ ys) a b all = λ i. slot_at y (all m (omega arith) i) ∷ same_from (m + 1) ys a b (λ q up. all q (omega (arith, up))) i

-- another series of this version's own in its place
from_put : (n k : ℕ) (last : List HeadSeries) (old new : ℕ → Option HeadSeries) (x : HeadSeries) → k < length last → new (n + k) ≡ Some x → ((q : ℕ) → (q ≡ n + k → ⊥) → new q ≡ old q)
    → slots_from n last new ≡ slice_set (slots_from n last old) k (Own x)
from_put n k [] old new x l here others = absurd (omega (arith, l))
from_put n zero (h ∷ hs) old new x l here others =
    let e : n + zero ≡ n = omega arith in
    λ i. slot_at h ((ap new (sym e) ∙ here) i) ∷ same_from (n + 1) hs new old (λ q up. others q (λ f. omega (arith, f, up))) i
from_put n (suc k) (h ∷ hs) old new x l here others =
    let e : n + suc k ≡ (n + 1) + k = omega arith in
    λ i. slot_at h (others n (λ f. omega (arith, f)) i) ∷ from_put (n + 1) k hs old new x (omega (arith, l)) (ap new (sym e) ∙ here) (λ q f. others q (λ g. f (g ∙ e))) i

pub put_last : (last : List HeadSeries) (old new : ℕ → Option HeadSeries) (begun : List HeadSeries) (k : ℕ) (x : HeadSeries) → k < length last → new k ≡ Some x → ((q : ℕ) → (q ≡ k → ⊥) → new q ≡ old q)
    → slots_of last new begun ≡ slice_set (slots_of last old begun) k (Own x)
put_last last old new begun k x l here others =
    ap (λ (ss : List Slot). ss ++ map (λ (h : HeadSeries). Own h) begun) (from_put 0 k last old new x l (ap new (from_zero k) ∙ here) (λ q ne. others q (λ e. ne (e ∙ sym (from_zero k)))))
    ∙ sym (set-append_left (slots_from 0 last old) (map (λ (h : HeadSeries). Own h) begun) k (Own x) (omega (arith, l, length-from 0 last old)))

pub put_begun : (last : List HeadSeries) (own : ℕ → Option HeadSeries) (begun : List HeadSeries) (k : ℕ) (x : HeadSeries) → length last ≤ k
    → slots_of last own (slice_set begun (k - length last) x) ≡ slice_set (slots_of last own begun) k (Own x)
put_begun last own begun k x low =
    ap (λ (ss : List Slot). slots_from 0 last own ++ ss) (map-set (λ (h : HeadSeries). Own h) begun (k - length last) x)
    ∙ sym (set-append_right (slots_from 0 last own) (map (λ (h : HeadSeries). Own h) begun) (length last) k (Own x) (length-from 0 last own) low)

-- one more
pub begun_more : (last : List HeadSeries) (own : ℕ → Option HeadSeries) (begun : List HeadSeries) (x : HeadSeries) → slots_of last own (begun ++ x ∷ []) ≡ slots_of last own begun ++ Own x ∷ []
begun_more last own begun x =
    ap (λ (ss : List Slot). slots_from 0 last own ++ ss) (map-append (λ (h : HeadSeries). Own h) begun (x ∷ []))
    ∙ sym (append_assoc (slots_from 0 last own) (map (λ (h : HeadSeries). Own h) begun) (Own x ∷ []))

-- none is this version's own
pub all_shared : (n : ℕ) (last : List HeadSeries) (own : ℕ → Option HeadSeries) → ((q : ℕ) → own q ≡ None) → slots_from n last own ≡ map (λ (h : HeadSeries). Shared h) last
all_shared n [] own none = refl
all_shared n (h ∷ hs) own none = λ i. slot_at h (none n i) ∷ all_shared (n + 1) hs own none i

pub series_shared : (last : List HeadSeries) → series_in_each (map (λ (h : HeadSeries). Shared h) last) ≡ last
series_shared [] = refl
series_shared (h ∷ hs) = ap (λ xs. h ∷ xs) (series_shared hs)

pub series_of_slots : (last : List HeadSeries) (own : ℕ → Option HeadSeries) (begun : List HeadSeries) → series_in_each (slots_of last own begun) ≡ series_in_each (slots_from 0 last own) ++ begun
series_of_slots last own begun = map-append series_in (slots_from 0 last own) (map (λ (h : HeadSeries). Own h) begun) ∙ ap (λ (hs : List HeadSeries). series_in_each (slots_from 0 last own) ++ hs) (all_begun begun)
  where
    all_begun : (hs : List HeadSeries) → series_in_each (map (λ (h : HeadSeries). Own h) hs) ≡ hs
    all_begun [] = refl
    all_begun (h ∷ hs) = ap (λ xs. h ∷ xs) (all_begun hs)

-- a series of this version's own that is put into the list, and no longer beside it
written_from : (n k : ℕ) (list : List HeadSeries) (own left : ℕ → Option HeadSeries) (x : HeadSeries) → k < length list → own (n + k) ≡ Some x → left (n + k) ≡ None → ((q : ℕ) → (q ≡ n + k → ⊥) → left q ≡ own q)
    → series_in_each (slots_from n (slice_set list k x) left) ≡ series_in_each (slots_from n list own)
written_from n k [] own left x l here gone others = absurd (omega (arith, l))
written_from n zero (h ∷ hs) own left x l here gone others =
    let e : n + zero ≡ n = omega arith in
    λ i. ((ap (λ o. series_in (slot_at x o)) (ap left (sym e) ∙ gone)) ∙ sym (ap (λ o. series_in (slot_at h o)) (ap own (sym e) ∙ here))) i
    ∷ series_in_each (same_from (n + 1) hs left own (λ q up. others q (λ f. omega (arith, f, up))) i)
written_from n (suc k) (h ∷ hs) own left x l here gone others =
    let e : n + suc k ≡ (n + 1) + k = omega arith in
    λ i. series_in (slot_at h (others n (λ f. omega (arith, f)) i)) ∷ written_from (n + 1) k hs own left x (omega (arith, l)) (ap own (sym e) ∙ here) (ap left (sym e) ∙ gone) (λ q f. others q (λ g. f (g ∙ e))) i

pub written : (k : ℕ) (list : List HeadSeries) (own left : ℕ → Option HeadSeries) (x : HeadSeries) → k < length list → own k ≡ Some x → left k ≡ None → ((q : ℕ) → (q ≡ k → ⊥) → left q ≡ own q)
    → series_in_each (slots_from 0 (slice_set list k x) left) ≡ series_in_each (slots_from 0 list own)
written k list own left x l here gone others =
    written_from 0 k list own left x l (ap own (from_zero k) ∙ here) (ap left (from_zero k) ∙ gone) (λ q ne. others q (λ e. ne (e ∙ sym (from_zero k))))

-- inside a list it does not matter what stands for an absent element
pub same_inside : {X : Type 0} (xs : List X) (i : ℕ) (d e : X) → i < length xs → slice_index_or xs i d ≡ slice_index_or xs i e
same_inside [] i d e h = absurd (omega (arith, h))
same_inside (x ∷ xs) zero d e h = refl
same_inside (x ∷ xs) (suc i) d e h = same_inside xs i d e (omega (arith, h))

-- a series with its label set, at a place that is another series'
pub labels_stay : (slots : List Slot) (k : ℕ) (h d : HeadSeries) → h.labels ≡ (slice_index_or (series_in_each slots) k d).labels → sets_of (series_in_each (slice_set slots k (Own h))) ≡ sets_of (series_in_each slots)
labels_stay slots k h d same = ap sets_of (map-set series_in slots k (Own h)) ∙ map-set_same (λ (x : HeadSeries). x.labels) (series_in_each slots) k h d same

apart_of : (k q : ℕ) (r : Ordering) → r ≡ nat_cmp k q → (q ≡ k → ⊥) → is_eq r ≡ false
apart_of k q Less e ne = refl
apart_of k q Equal e ne = absurd (ne (sym (ranked k q Equal e)))
apart_of k q Greater e ne = refl

-- numbers that are not the same are not equal for a search
pub apart : (k q : ℕ) → (q ≡ k → ⊥) → is_eq (nat_cmp k q) ≡ false
apart k q ne = apart_of k q (nat_cmp k q) refl ne

module _ (last : List HeadSeries) (own : ℕ → Option HeadSeries) (begun : List HeadSeries) where
  -- the series of a place, by what holds it
  pub series_last : (k : ℕ) (d e : HeadSeries) → k < length last → slice_index_or (series_in_each (slots_of last own begun)) k d ≡ series_in (slot_at (slice_index_or last k e) (own k))
  series_last k d e l =
      get_or-map_below series_in (slots_of last own begun) k (Own d) d (omega (arith, l, length-slots last own begun))
      ∙ ap series_in (slot_last last own begun k (Own d) e l)

  pub series_begun : (k : ℕ) (d e : HeadSeries) → length last ≤ k → k < length last + length begun → slice_index_or (series_in_each (slots_of last own begun)) k d ≡ slice_index_or begun (k - length last) e
  series_begun k d e low high =
      get_or-map_below series_in (slots_of last own begun) k (Own d) d (omega (arith, high, length-slots last own begun))
      ∙ ap series_in (slot_begun last own begun k (Own d) e low high)

  -- what is copied of a series of the last version is counted
  pub counted_last : (k copied : ℕ) (x e : HeadSeries) → k < length last → copied + 119 * own_count (slot_at (slice_index_or last k e) (own k)) ≤ 119
      → copied + 119 * owned (slots_of last own begun) ≤ 119 * owned (slice_set (slots_of last own begun) k (Own x))
  counted_last k copied x e l few =
      let s : Slot = slot_at (slice_index_or last k e) (own k) in
      counted_more (slots_of last own begun) k copied (Own x) s (omega (arith, l, length-slots last own begun)) (sym (slot_last last own begun k s e l)) few

  pub counted_begun : (k : ℕ) (x e : HeadSeries) → length last ≤ k → k < length last + length begun → 0 + 119 * owned (slots_of last own begun) ≤ 119 * owned (slice_set (slots_of last own begun) k (Own x))
  counted_begun k x e low high =
      let s : Slot = Own (slice_index_or begun (k - length last) e) in
      counted_more (slots_of last own begun) k 0 (Own x) s (omega (arith, high, length-slots last own begun)) (sym (slot_begun last own begun k s e low high)) (omega arith)

-- a new draft
pub none_in : (m : BTreeMap ℕ HeadSeries) → m.entries ≡ [] → (q : ℕ) → get nat_cmp m q ≡ None
none_in m e q = ap (λ (es : List (ℕ × HeadSeries)). lookup (is_at (nat_cmp q)) es) e

pub new_slots : (last : List HeadSeries) (own : ℕ → Option HeadSeries) (begun : List HeadSeries) → ((q : ℕ) → own q ≡ None) → begun ≡ [] → slots_of last own begun ≡ map (λ (h : HeadSeries). Shared h) last
new_slots last own begun none empty =
    ap (λ (hs : List HeadSeries). slots_of last own hs) empty
    ∙ append-nil (slots_from 0 last own)
    ∙ all_shared 0 last own none

pub nothing_left : {X : Type 0} (xs : List X) → length xs ≡ 0 → xs ≡ []
nothing_left [] e = refl
nothing_left (x ∷ xs) e = absurd (omega (arith, e))

none_or_some : (x : HeadSeries) (o : Option HeadSeries) → o ≡ Some x → o ≡ None → ⊥
none_or_some x o e f = true_not_false (ap is_some (sym e ∙ f))

-- a series of a version's own stands at a place of the last version
pub place_inside : (n : ℕ) (own : ℕ → Option HeadSeries) (k : ℕ) (x : HeadSeries) → ((q : ℕ) → n ≤ q → own q ≡ None) → own k ≡ Some x → k < n
place_inside n own k x none held =
    elim (leb_tells n k) [
      | inl t ↦ absurd (none_or_some x (own k) held (none k t.1))
      | inr f ↦ f.1
    ]

-- where none stood, none is left
pub none_left : (own left : ℕ → Option HeadSeries) (k : ℕ) → ((q : ℕ) → (q ≡ k → ⊥) → left q ≡ own q) → left k ≡ None → (q : ℕ) → own q ≡ None → left q ≡ None
none_left own left k others gone q none = elim (cases_eq q k) [ inl e ↦ ap left e ∙ gone | inr ne ↦ others q ne ∙ none ]

pub no_number : (n : ℕ) → (0 < n → false ≡ true) → n ≡ 0
no_number zero h = refl
no_number (suc n) h = absurd (true_not_false (sym (h (omega arith))))
