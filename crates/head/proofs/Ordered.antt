-- The places of series by their label sets, as a head grows and is cut.
use Rattle.std.specs.Prelude.{◌≡◌, ◌<◌, ◌+◌, ℕ, zero, suc, ℤ, Bool, true, false, cond, List, [], ◌∷◌, ◌++◌, Option, None, Some, length, take, is_some, int_lt, not, refl, slice_index_or, unwrap_or}
use Rattle.std.specs.FinMap.Entries.{find, put, find-put}
use Rattle.std.proofs.Common.{◌⊎◌, inl, inr, sym, ◌∙◌, ap, subst, arith}
use Rattle.std.proofs.lemmas.List.{get_or_append_left, length-append}
use Rattle.std.specs.Cmp.{tied_itself}
use Rattle.std.specs.Ordering.{is_eq}
use Rattle.labels.specs.Labels.{Labels, labels_cmp, same_labels}
use Rattle.labels.specs.Laws.{labels_total}
use Rattle.labels.proofs.OrderLaws.{same_turn}
use Rattle.labels.proofs.Times.{true_not_false}
use Rattle.head.specs.Heads.{HeadSeries, series_at, IsSoundHead}
use Rattle.head.specs.Orders.{sets_of, IsOrderOf, HasSet}
use Rattle.head.specs.Removing.{series_kept, from_on, head_cut}
use Rattle.head.specs.Taking.{place_from}
use Rattle.head.proofs.HeadLaws.{same_path}

-- the place, or else another one
abbrev or_place : Option ℕ → Option ℕ → Option ℕ
or_place (Some i) o = Some i
or_place None o = o

place_more : (l : Labels) (n : ℕ) (head : List HeadSeries) (h : HeadSeries) →
    place_from l n (head ++ h ∷ []) ≡ or_place (place_from l n head) (cond (same_labels l h.labels) (Some (n + length head)) None)
place_more l n [] h = let e : n ≡ n + zero = omega arith in ap (λ m. cond (same_labels l h.labels) (Some m) None) e
place_more l n (x ∷ xs) h =
    let e : (n + 1) + length xs ≡ n + suc (length xs) = omega arith in
    elim (same_labels l x.labels) as (λ b. cond b (Some n) (place_from l (n + 1) (xs ++ h ∷ [])) ≡ or_place (cond b (Some n) (place_from l (n + 1) xs)) (cond (same_labels l h.labels) (Some (n + suc (length xs))) None)) [
      | true ↦ refl
      | false ↦ place_more l (n + 1) xs h ∙ ap (λ m. or_place (place_from l (n + 1) xs) (cond (same_labels l h.labels) (Some m) None)) e
    ]

or_none : (o : Option ℕ) → o ≡ or_place o None
or_none (Some i) = refl
or_none None = refl

from_zero : (n : ℕ) → n ≡ 0 + n
from_zero n = omega arith

same_self : (l : Labels) → same_labels l l ≡ true
same_self l = ap is_eq (tied_itself labels_total l)

below_or_last : (i n : ℕ) → i < suc n → (i < n) ⊎ (i ≡ n)
below_or_last zero zero l = inr refl
below_or_last zero (suc n) l = inl (omega arith)
below_or_last (suc i) zero l = absurd (omega (arith, l))
below_or_last (suc i) (suc n) l = elim (below_or_last i n (omega (arith, l))) [ inl b ↦ inl (omega (arith, b)) | inr e ↦ inr (ap suc e) ]

-- a series among the first ones, and the one more
place_old : (head : List HeadSeries) (h d : HeadSeries) (i : ℕ) → i < length head → place_from (slice_index_or head i d).labels 0 head ≡ Some i
    → place_from (slice_index_or (head ++ h ∷ []) i d).labels 0 (head ++ h ∷ []) ≡ Some i
place_old head h d i inside is =
    let l : Labels = (slice_index_or head i d).labels in
    ap (λ (x : HeadSeries). place_from x.labels 0 (head ++ h ∷ [])) (get_or_append_left head (h ∷ []) d i inside)
    ∙ place_more l 0 head h
    ∙ ap (λ o. or_place o (cond (same_labels l h.labels) (Some (0 + length head)) None)) is

last_is : (head : List HeadSeries) (h d : HeadSeries) → slice_index_or (head ++ h ∷ []) (length head) d ≡ h
last_is [] h d = refl
last_is (x ∷ xs) h d = last_is xs h d

place_last : (head : List HeadSeries) (h d : HeadSeries) → place_from h.labels 0 head ≡ None
    → place_from (slice_index_or (head ++ h ∷ []) (length head) d).labels 0 (head ++ h ∷ []) ≡ Some (length head)
place_last head h d none =
    ap (λ (x : HeadSeries). place_from x.labels 0 (head ++ h ∷ [])) (last_is head h d)
    ∙ place_more h.labels 0 head h
    ∙ ap (λ o. or_place o (cond (same_labels h.labels h.labels) (Some (0 + length head)) None)) none
    ∙ ap (λ b. cond b (Some (0 + length head)) None) (same_self h.labels)
    ∙ ap Some (sym (from_zero (length head)))

-- a series of a label set that was not there
pub place_new : (head : List HeadSeries) (h : HeadSeries) → place_from h.labels 0 head ≡ None → place_from h.labels 0 (head ++ h ∷ []) ≡ Some (length head)
place_new head h none =
    ap (λ (x : HeadSeries). place_from x.labels 0 (head ++ h ∷ [])) (sym (last_is head h h))
    ∙ place_last head h h none

apart_more : (head : List HeadSeries) (h : HeadSeries) → place_from h.labels 0 head ≡ None
    → ((k : ℕ) (d : HeadSeries) → k < length head → place_from (slice_index_or head k d).labels 0 head ≡ Some k)
    → (k : ℕ) (d : HeadSeries) → k < length (head ++ h ∷ []) → place_from (slice_index_or (head ++ h ∷ []) k d).labels 0 (head ++ h ∷ []) ≡ Some k
apart_more head h none apart k d inside = elim (below_or_last k (length head) (omega (arith, inside, length-append head (h ∷ [])))) [
  | inl b ↦ place_old head h d k b (apart k d b)
  | inr e ↦ subst (λ (n : ℕ). place_from (slice_index_or (head ++ h ∷ []) n d).labels 0 (head ++ h ∷ []) ≡ Some n) (sym e) (place_last head h d none)
]

-- one series more
pub ordered_more : (order : List (Labels × ℕ)) (head : List HeadSeries) (h : HeadSeries) (k : ℕ) → k ≡ length head → place_from h.labels 0 head ≡ None → IsOrderOf order head
    → IsOrderOf (put labels_cmp h.labels k order) (head ++ h ∷ [])
ordered_more order head h k is none ordered = record {
  placed = λ l.
      find-put labels_cmp labels_total l h.labels k order
      ∙ elim (same_labels l h.labels) as (λ b. same_labels l h.labels ≡ b → cond b (Some k) (find labels_cmp l order) ≡ or_place (place_from l 0 head) (cond b (Some (0 + length head)) None)) [
        | true ↦ λ e. ap (λ m. Some m) (is ∙ from_zero (length head)) ∙ ap (λ o. or_place o (Some (0 + length head))) (sym (ap (λ (m : Labels). place_from m 0 head) (same_path l h.labels e) ∙ none))
        | false ↦ λ e. ordered.placed l ∙ or_none (place_from l 0 head)
      ] refl
      ∙ sym (place_more l 0 head h);
  apart = apart_more head h none ordered.apart;
}

pub ordered_none : IsOrderOf [] []
ordered_none = record { placed = λ l. refl; apart = λ k d l. absurd (omega (arith, l)) }

pub same_place : (l : Labels) (n : ℕ) (a b : List HeadSeries) → sets_of a ≡ sets_of b → place_from l n a ≡ place_from l n b
same_place l n [] [] e = refl
same_place l n [] (y ∷ ys) e = absurd cc
same_place l n (x ∷ xs) [] e = absurd cc
same_place l n (x ∷ xs) (y ∷ ys) e =
    let first : x.labels ≡ y.labels = cc in
    let rest : sets_of xs ≡ sets_of ys = cc in
    λ i. cond (same_labels l (first i)) (Some n) (same_place l (n + 1) xs ys rest i)

same_at : (a b : List HeadSeries) (k : ℕ) (d : HeadSeries) → sets_of a ≡ sets_of b → k < length b → (k < length a) × ((slice_index_or a k d).labels ≡ (slice_index_or b k d).labels)
same_at [] [] k d e inside = absurd (omega (arith, inside))
same_at [] (y ∷ ys) k d e inside = absurd cc
same_at (x ∷ xs) [] k d e inside = absurd cc
same_at (x ∷ xs) (y ∷ ys) zero d e inside = (omega arith, cc)
same_at (x ∷ xs) (y ∷ ys) (suc k) d e inside =
    let rest : sets_of xs ≡ sets_of ys = cc in
    let next = same_at xs ys k d rest (omega (arith, inside)) in
    (omega (arith, next.0), next.1)

-- series of the same label sets
pub ordered_alike : (order : List (Labels × ℕ)) (a b : List HeadSeries) → sets_of a ≡ sets_of b → IsOrderOf order a → IsOrderOf order b
ordered_alike order a b e ordered = record {
  placed = λ l. ordered.placed l ∙ same_place l 0 a b e;
  apart = λ k d inside.
      let same = same_at a b k d e inside in
      ap (λ (l : Labels). place_from l 0 b) (sym same.1)
      ∙ sym (same_place (slice_index_or a k d).labels 0 a b e)
      ∙ ordered.apart k d same.0;
}

-- where a series with the label set stands, the label set is placed
pub placed_at : (order : List (Labels × ℕ)) (head : List HeadSeries) (l : Labels) (k : ℕ) (d : HeadSeries) → IsOrderOf order head → HasSet head k l → Some k ≡ place_from l 0 head
placed_at order head l k d ordered has = sym (ordered.apart k d has.inside) ∙ ap (λ (m : Labels). place_from m 0 head) (has.same d)

place_absent : (b : Bool) (n : ℕ) (o : Option ℕ) → b ≡ false → o ≡ None → cond b (Some n) o ≡ None
place_absent b n o e none = ap (λ c. cond c (Some n) o) e ∙ none

first_absent : (b : Bool) (h : HeadSeries) (o : Option HeadSeries) → cond b (Some h) o ≡ None → (b ≡ false) × (o ≡ None)
first_absent true h o e = absurd (true_not_false (ap is_some e))
first_absent false h o e = (refl, e)

-- a label set that none of the series has
unlike : (l : Labels) (hs : List HeadSeries) (i : ℕ) (d : HeadSeries) → series_at l hs ≡ None → i < length hs → same_labels l (slice_index_or hs i d).labels ≡ false
unlike l [] i d e inside = absurd (omega (arith, inside))
unlike l (h ∷ hs) zero d e inside = (first_absent (same_labels l h.labels) h (series_at l hs) e).0
unlike l (h ∷ hs) (suc i) d e inside = unlike l hs i d (first_absent (same_labels l h.labels) h (series_at l hs) e).1 (omega (arith, inside))

-- no series before one of a sound head has its label set
pub absent_before : (floor : ℤ) (n : ℕ) (hs : List HeadSeries) (i : ℕ) (d : HeadSeries) → IsSoundHead floor hs → i < length hs → place_from (slice_index_or hs i d).labels n (take i hs) ≡ None
absent_before floor n [] i d sound inside = absurd (omega (arith, inside))
absent_before floor n (h ∷ hs) zero d sound inside = refl
absent_before floor n (h ∷ hs) (suc i) d sound inside =
    place_absent (same_labels (slice_index_or hs i d).labels h.labels) n (place_from (slice_index_or hs i d).labels (n + 1) (take i hs))
    (same_turn (slice_index_or hs i d).labels h.labels ∙ unlike h.labels hs i d sound.1 (omega (arith, inside)))
    (absent_before floor (n + 1) hs i d sound.2 (omega (arith, inside)))

pub place_first : (b : Bool) (n : ℕ) (o : Option ℕ) → cond b (Some n) o ≡ None → (b ≡ false) × (o ≡ None)
place_first true n o e = absurd (true_not_false (ap is_some e))
place_first false n o e = (refl, e)

-- a cut adds no label set
absent_left : (t : ℤ) (l : Labels) (n m : ℕ) (hs : List HeadSeries) → place_from l n hs ≡ None → place_from l m (head_cut t hs) ≡ None
absent_left t l n m [] none = refl
absent_left t l n m (h ∷ hs) none =
    let both = place_first (same_labels l h.labels) n (place_from l (n + 1) hs) none in
    elim (not (int_lt h.newest.0 t)) as (λ b. place_from l m (cond b (series_kept (from_on t) h ∷ head_cut t hs) (head_cut t hs)) ≡ None) [
      | true ↦ place_absent (same_labels l h.labels) m (place_from l (m + 1) (head_cut t hs)) both.0 (absent_left t l (n + 1) (m + 1) hs both.1)
      | false ↦ absent_left t l (n + 1) m hs both.1
    ]

-- a series that stays is not found among those before it that stay
pub absent_in_cut : (floor t : ℤ) (hs : List HeadSeries) (i : ℕ) (d : HeadSeries) → IsSoundHead floor hs → i < length hs → place_from (slice_index_or hs i d).labels 0 (head_cut t (take i hs)) ≡ None
absent_in_cut floor t hs i d sound inside = absent_left t (slice_index_or hs i d).labels 0 0 (take i hs) (absent_before floor 0 hs i d sound inside)

-- the series that is found has the label set
pub like_series : (l : Labels) (head : List HeadSeries) (h : HeadSeries) → series_at l head ≡ Some h → l ≡ h.labels
like_series l [] h e = absurd (true_not_false (sym (ap is_some e)))
like_series l (x ∷ xs) h e =
    elim (same_labels l x.labels) as (λ b. same_labels l x.labels ≡ b → cond b (Some x) (series_at l xs) ≡ Some h → l ≡ h.labels) [
      | true ↦ λ s f. same_path l x.labels s ∙ ap (λ (o : Option HeadSeries). (unwrap_or o x).labels) f
      | false ↦ λ s f. like_series l xs h f
    ] refl e
