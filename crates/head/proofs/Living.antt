-- A list of live series goes on.
use Rattle.std.proofs.Common.{◌≡◌, ℕ, zero, suc, ◌+◌, ◌<◌, ◌≤◌, ℤ, true, false, List, length, map, drop, get_or, refl, sym, ap, subst, ◌∙◌, arith, inl, inr}
use Rattle.std.specs.Prelude.{T, All}
use Rattle.std.specs.Ordering.{int_cmp}
use Rattle.std.specs.FinMap.Entries.{is_sorted}
use Rattle.std.proofs.lemmas.Bool.{cases_eq}
use Rattle.std.proofs.lemmas.List.{get_or-map, get_or-drop, get_or_append_left, length-append, length-drop}
use Rattle.labels.specs.Ascending.{first_of}
use Rattle.labels.specs.Parts.{has_sample, live_references, references, Part, IsPart}
use Rattle.pages.specs.Pages.{IsPrefix}
use Rattle.head.specs.Heads.{HeadSeries, head_part}
use Rattle.head.specs.HeadRows.{rows_from}
use Rattle.head.specs.HeadRowLaws.{passed, settled_here, times_at}
use Rattle.head.proofs.SlotLaws.{same_inside}

-- what a place of a leaf holds
pub at_place : {X : Type 0} (f : X → HeadSeries) (xs : List X) (i : ℕ) (x : X) (h : HeadSeries) → i < length xs → x ≡ get_or xs i x → h ≡ f x → get_or (map f xs) i (f x) ≡ h
at_place f xs i x h l e s = get_or-map f xs i x (f x) l ∙ ap f (sym e) ∙ sym s

-- one series more has no sample in the range
pub none_more : (from to : ℤ) (hs : List HeadSeries) (n : ℕ) (e : HeadSeries) → n < length hs → ((k : ℕ) (d : HeadSeries) → k < n → has_sample from to (get_or hs k d).samples ≡ false)
    → has_sample from to (get_or hs n e).samples ≡ false → (k : ℕ) (d : HeadSeries) → k < n + 1 → has_sample from to (get_or hs k d).samples ≡ false
none_more from to hs n e inside before here k d l =
    elim (cases_eq k n) [
      | inl same ↦ ap (λ m. has_sample from to (get_or hs m d).samples) same ∙ ap (λ (h : HeadSeries). has_sample from to h.samples) (same_inside hs n d e inside) ∙ here
      | inr other ↦ before k d (below k n l other)
    ]
  where
    below : (a b : ℕ) → a < b + 1 → (a ≡ b → ⊥) → a < b
    below zero zero h ne = absurd (ne refl)
    below zero (suc b) h ne = omega arith
    below (suc a) zero h ne = absurd (omega (arith, h))
    below (suc a) (suc b) h ne = let r = below a b (omega (arith, h)) (λ f. ne (ap suc f)) in omega (arith, r)

module _ (hs leaf : List HeadSeries) (i : ℕ) (prefix : IsPrefix leaf (drop i hs)) where
  -- a leaf lies inside the list
  pub leaf_inside : i ≤ length hs → i + length leaf ≤ length hs
  leaf_inside l =
      let size = ap length prefix.1 in
      omega (arith, l, size, length-append leaf prefix.0, length-drop i hs)

  pub leaf_at : (k : ℕ) (d : HeadSeries) → k < length leaf → get_or hs (i + k) d ≡ get_or leaf k d
  leaf_at k d l = sym (get_or-drop i hs k d) ∙ ap (λ (xs : List HeadSeries). get_or xs k d) prefix.1 ∙ get_or_append_left leaf prefix.0 d k l

  -- the times of each series of a leaf ascend
  pub leaf_times : i ≤ length hs → IsPart (head_part hs) → All (λ h. T (is_sorted int_cmp h.samples)) leaf
  leaf_times l part k d inside =
      subst (λ (h : HeadSeries). T (is_sorted int_cmp h.samples)) (leaf_at k d inside)
      (times_at hs (i + k) d part (omega (arith, inside, leaf_inside l)))

  -- series at its front that have no sample in the range are passed over
  pub leaf_passed : (from to : ℤ) (n : ℕ) (d : HeadSeries) → i ≤ length hs → n ≤ length leaf → ((k : ℕ) (e : HeadSeries) → k < n → has_sample from to (get_or leaf k e).samples ≡ false)
      → live_references from to (rows_from (i + n) hs) ≡ live_references from to (rows_from i hs)
  leaf_passed from to zero d l few none = let e : i + zero ≡ i = omega arith in ap (λ m. live_references from to (rows_from m hs)) e
  leaf_passed from to (suc n) d l few none =
      let e : i + suc n ≡ (i + n) + 1 = omega arith in
      ap (λ m. live_references from to (rows_from m hs)) e
      ∙ passed (λ row. has_sample from to row.1.1) hs (i + n) d (omega (arith, few, leaf_inside l))
      (ap (λ (h : HeadSeries). has_sample from to h.samples) (leaf_at n d (omega (arith, few))) ∙ none n d (omega arith))
      ∙ leaf_passed from to n d l (omega (arith, few)) (λ k e' b. none k e' (omega (arith, b)))

  pub leaf_settled : (from to : ℤ) (n : ℕ) (d : HeadSeries) → i ≤ length hs → n < length leaf → has_sample from to (get_or leaf n d).samples ≡ true
      → first_of (live_references from to (rows_from (i + n) hs)) ≡ first_of (references (rows_from (i + n) hs))
  leaf_settled from to n d l few is =
      settled_here (λ row. has_sample from to row.1.1) hs (i + n) d (omega (arith, few, leaf_inside l))
      (ap (λ (h : HeadSeries). has_sample from to h.samples) (leaf_at n d few) ∙ is)

-- the same under other names of the times
pub in_times : (from from' to to' : ℤ) (p q : Part) → from' ≡ from → to' ≡ to → live_references from' to' p ≡ live_references from' to' q → live_references from to p ≡ live_references from to q
in_times from from' to to' p q x y e = subst (λ (t : ℤ). live_references from t p ≡ live_references from t q) y (subst (λ (t : ℤ). live_references t to' p ≡ live_references t to' q) x e)
