-- The references of a head's rows.
use Rattle.std.proofs.Common.{◌≡◌, ℕ, zero, suc, ◌+◌, ◌-◌, ◌<◌, ◌≤◌, Bool, true, false, cond, List}
use Rattle.std.proofs.Common.{[], ◌∷◌, length, map, drop, get_or, Some, refl, sym, ◌∙◌, ap, subst}
use Rattle.std.proofs.Common.{arith}
use Rattle.std.specs.Prelude.{nat_le, T}
use Rattle.std.specs.Ordering.{int_cmp}
use Rattle.std.specs.FinMap.Entries.{is_sorted}
use Rattle.std.specs.List.{range_with_len, Contains, filter}
use Rattle.std.specs.List.Sorted.{IsStrictlyIncreasing}
use Rattle.labels.specs.Ascending.{first_of, rest_of, not_below}
use Rattle.labels.specs.Rows.{Row}
use Rattle.labels.specs.Parts.{Part, references, references_of, IsPart}
use Rattle.labels.proofs.PartRows.{kept_in}
use Rattle.labels.proofs.Lists.{first_in, here, there, filter-all}
use Rattle.head.specs.Heads.{HeadSeries, numbered}
use Rattle.head.specs.HeadRows.{rows_from, numbered_row}
use Rattle.head.specs.SpanLaws.{in_span, span_rises, le_test, lt_test}

pub references-numbered : (n : ℕ) (hs : List HeadSeries)
    → references (numbered n hs) ≡ range_with_len n (length hs)
references-numbered n [] = refl
references-numbered n (h ∷ hs) = ap (λ rs. n ∷ rs) (references-numbered (n + 1) hs)

pub numbered_rises : (n : ℕ) (hs : List HeadSeries)
    → IsStrictlyIncreasing (references (numbered n hs))
numbered_rises n hs =
    subst IsStrictlyIncreasing (sym (references-numbered n hs)) (span_rises n (length hs))

-- the rows that pass, from a reference on
pub kept_sought : (keep : ℕ × Row → Bool) (hs : List HeadSeries) (n t k : ℕ) → k ≡ t - n
    → not_below t (references_of keep (numbered n hs))
    ≡ references_of keep (numbered (n + k) (drop k hs))
kept_sought keep [] n t zero e = refl
kept_sought keep [] n t (suc k) e = refl
kept_sought keep (h ∷ hs) n t zero e =
    let same : n ≡ n + zero = omega arith in
    filter-all (λ r. nat_le t r) (references_of keep (numbered n (h ∷ hs))) (λ r c.
    let m : Contains (range_with_len n (length (h ∷ hs))) r =
    subst (λ (rs : List ℕ). Contains rs r) (references-numbered n (h ∷ hs))
    (kept_in keep (numbered n (h ∷ hs)) r c) in
    let b : n ≤ r = (in_span n (length (h ∷ hs)) r m).0 in
    le_test t r (omega (arith, e, b)))
    ∙ ap (λ m. references_of keep (numbered m (h ∷ hs))) same
kept_sought keep (h ∷ hs) n t (suc k) e =
    let same : (n + 1) + k ≡ n + suc k = omega arith in
    past (keep (n, (h.labels, h.samples)))
    ∙ kept_sought keep hs (n + 1) t k (omega (arith, e))
    ∙ ap (λ m. references_of keep (numbered m (drop k hs))) same
  where
    past : (b : Bool)
        → not_below t (map (λ (x : ℕ × Row). x.0)
        (cond b ((n, (h.labels, h.samples)) ∷ filter keep (numbered (n + 1) hs))
        (filter keep (numbered (n + 1) hs))))
        ≡ not_below t (references_of keep (numbered (n + 1) hs))
    past true =
        ap (λ c. cond c (n ∷ not_below t (references_of keep (numbered (n + 1) hs)))
        (not_below t (references_of keep (numbered (n + 1) hs)))) (lt_test t n (omega (arith, e)))
    past false = refl

rows_cons : (hs : List HeadSeries) (i : ℕ) (d : HeadSeries) → i < length hs
    → drop i hs ≡ get_or hs i d ∷ drop (suc i) hs
rows_cons [] i d l = absurd (omega (arith, l))
rows_cons (h ∷ hs) zero d l = refl
rows_cons (h ∷ hs) (suc i) d l = rows_cons hs i d (omega (arith, l))

no_rows : (hs : List HeadSeries) (i : ℕ) → length hs ≤ i → drop i hs ≡ []
no_rows [] zero l = refl
no_rows [] (suc i) l = refl
no_rows (h ∷ hs) zero l = absurd (omega (arith, l))
no_rows (h ∷ hs) (suc i) l = no_rows hs i (omega (arith, l))

pub rows_at : (hs : List HeadSeries) (i : ℕ) (d : HeadSeries) → i < length hs
    → rows_from i hs ≡ numbered_row (i + 1) (get_or hs i d) ∷ rows_from (i + 1) hs
rows_at hs i d l =
    let s : suc i ≡ i + 1 = omega arith in
    ap (numbered (i + 1)) (rows_cons hs i d l)
    ∙ ap (λ k. numbered_row (i + 1) (get_or hs i d) ∷ numbered (i + 1 + 1) (drop k hs)) s

pub rows_end : (hs : List HeadSeries) (i : ℕ) → length hs ≤ i → rows_from i hs ≡ []
rows_end hs i l = ap (numbered (i + 1)) (no_rows hs i l)

module _ (keep : ℕ × Row → Bool) (hs : List HeadSeries) where
  -- a series that fails is passed over
  pub passed : (i : ℕ) (d : HeadSeries) → i < length hs
      → keep (numbered_row (i + 1) (get_or hs i d)) ≡ false
      → references_of keep (rows_from (i + 1) hs) ≡ references_of keep (rows_from i hs)
  passed i d l e =
      sym (ap (references_of keep) (rows_at hs i d l)
      ∙ ap (λ b. map (λ (x : ℕ × Row). x.0)
      (cond b (numbered_row (i + 1) (get_or hs i d) ∷ filter keep (rows_from (i + 1) hs))
      (filter keep (rows_from (i + 1) hs)))) e)

  -- at a series that passes, or at the end, the first that passes is the first of all
  pub settled_here : (i : ℕ) (d : HeadSeries) → i < length hs
      → keep (numbered_row (i + 1) (get_or hs i d)) ≡ true
      → first_of (references_of keep (rows_from i hs)) ≡ first_of (references (rows_from i hs))
  settled_here i d l e =
      ap (λ p. first_of (references_of keep p)) (rows_at hs i d l)
      ∙ ap (λ b. first_of
      (map (λ (x : ℕ × Row). x.0)
      (cond b (numbered_row (i + 1) (get_or hs i d) ∷ filter keep (rows_from (i + 1) hs))
      (filter keep (rows_from (i + 1) hs))))) e
      ∙ sym (ap (λ p. first_of (references p)) (rows_at hs i d l))

  pub settled_end : (i : ℕ) → length hs ≤ i
      → first_of (references_of keep (rows_from i hs)) ≡ first_of (references (rows_from i hs))
  settled_end i l =
      ap (λ p. first_of (references_of keep p)) (rows_end hs i l)
      ∙ sym (ap (λ p. first_of (references p)) (rows_end hs i l))

  -- the list less its first, where that is the first of all
  pub rest_settled : (i : ℕ) (d : HeadSeries) → i < length hs
      → first_of (references_of keep (rows_from i hs)) ≡ first_of (references (rows_from i hs))
      → references_of keep (rows_from (i + 1) hs) ≡ rest_of (references_of keep (rows_from i hs))
  rest_settled i d l e =
      go (keep (numbered_row (i + 1) (get_or hs i d)))
      (sym (ap (λ p. first_of (references_of keep p)) (rows_at hs i d l)) ∙ e
      ∙ ap (λ p. first_of (references p)) (rows_at hs i d l))
      ∙ sym (ap (λ p. rest_of (references_of keep p)) (rows_at hs i d l))
    where
      rows : Part
      rows = rows_from (i + 1) hs

      go : (b : Bool)
          → first_of (map (λ (x : ℕ × Row). x.0)
          (cond b (numbered_row (i + 1) (get_or hs i d) ∷ filter keep (rows_from (i + 1) hs))
          (filter keep (rows_from (i + 1) hs))))
          ≡ Some (i + 1)
          → references_of keep (rows_from (i + 1) hs)
          ≡ rest_of (map (λ (x : ℕ × Row). x.0)
          (cond b (numbered_row (i + 1) (get_or hs i d) ∷ filter keep (rows_from (i + 1) hs))
          (filter keep (rows_from (i + 1) hs))))
      go true f = refl
      go false f = absurd (
          let c : Contains (references (rows_from (i + 1) hs)) (i + 1) =
          kept_in keep (rows_from (i + 1) hs) (i + 1)
          (first_in (references_of keep (rows_from (i + 1) hs)) (i + 1) f) in
          let m =
          (in_span (i + 1 + 1) (length (drop (i + 1) hs)) (i + 1)
          (subst (λ (rs : List ℕ). Contains rs (i + 1))
          (references-numbered (i + 1 + 1) (drop (i + 1) hs)) c)).0 in
          omega (arith, m))

drop-drop : (hs : List HeadSeries) (i k : ℕ) → drop k (drop i hs) ≡ drop (i + k) hs
drop-drop [] zero zero = refl
drop-drop [] zero (suc k) = sym (no_rows [] (zero + suc k) (omega arith))
drop-drop [] (suc i) zero = sym (no_rows [] (suc i + zero) (omega arith))
drop-drop [] (suc i) (suc k) = sym (no_rows [] (suc i + suc k) (omega arith))
drop-drop (h ∷ hs) zero k = let e : k ≡ zero + k = omega arith in ap (λ m. drop m (h ∷ hs)) e
drop-drop (h ∷ hs) (suc i) k =
    let e : suc (i + k) ≡ suc i + k = omega arith in drop-drop hs i k ∙ ap (λ m. drop m (h ∷ hs)) e

-- a seek goes to the place of the target, if that lies ahead
pub rows_sought : (keep : ℕ × Row → Bool) (hs : List HeadSeries) (i t j : ℕ) → i ≤ j
    → j - i ≡ t - (i + 1)
    → references_of keep (rows_from j hs) ≡ not_below t (references_of keep (rows_from i hs))
rows_sought keep hs i t j le e =
    let p : i + 1 + (j - i) ≡ j + 1 = omega (arith, le) in
    let q : i + (j - i) ≡ j = omega (arith, le) in
    sym (kept_sought keep (drop i hs) (i + 1) t (j - i) e
    ∙ ap (λ rows. references_of keep (numbered (i + 1 + (j - i)) rows)) (drop-drop hs i (j - i))
    ∙ (λ x. references_of keep (numbered (p x) (drop (q x) hs))))

pub rows_rise : (i : ℕ) (hs : List HeadSeries) → IsStrictlyIncreasing (references (rows_from i hs))
rows_rise i hs = numbered_rises (i + 1) (drop i hs)

numbered_has : (n : ℕ) (hs : List HeadSeries) (i : ℕ) (d : HeadSeries) → i < length hs
    → Contains (numbered n hs) (numbered_row (n + i) (get_or hs i d))
numbered_has n [] i d l = absurd (omega (arith, l))
numbered_has n (h ∷ hs) zero d l =
    let e : n ≡ n + zero = omega arith in
    subst (λ m. Contains (numbered n (h ∷ hs)) (numbered_row m h)) e
    (here (numbered_row n h) (numbered (n + 1) hs))
numbered_has n (h ∷ hs) (suc i) d l =
    let e : (n + 1) + i ≡ n + suc i = omega arith in
    subst (λ m. Contains (numbered n (h ∷ hs)) (numbered_row m (get_or hs i d))) e
    (there (numbered_row n h) (numbered_row ((n + 1) + i) (get_or hs i d)) (numbered (n + 1) hs)
    (numbered_has (n + 1) hs i d (omega (arith, l))))

-- the times of each series of a part ascend
pub times_at : (hs : List HeadSeries) (i : ℕ) (d : HeadSeries) → IsPart (numbered 1 hs)
    → i < length hs → T (is_sorted int_cmp (get_or hs i d).samples)
times_at hs i d h l = h.times (numbered_row (1 + i) (get_or hs i d)) (numbered_has 1 hs i d l)

some_series : (hs : List HeadSeries) (i : ℕ) → i < length hs → HeadSeries
some_series [] i l = absurd (omega (arith, l))
some_series (h ∷ hs) i l = h

-- the first of the rows from a place on
pub first_at : (hs : List HeadSeries) (i : ℕ) → i < length hs
    → first_of (references (rows_from i hs)) ≡ Some (i + 1)
first_at hs i l = ap (λ p. first_of (references p)) (rows_at hs i (some_series hs i l) l)

pub all_rows : (hs : List HeadSeries) → rows_from 0 hs ≡ numbered 1 hs
all_rows [] = refl
all_rows (h ∷ hs) = refl

pub rest_at : (keep : ℕ × Row → Bool) (hs : List HeadSeries) (i : ℕ) → i < length hs
    → first_of (references_of keep (rows_from i hs)) ≡ first_of (references (rows_from i hs))
    → references_of keep (rows_from (i + 1) hs) ≡ rest_of (references_of keep (rows_from i hs))
rest_at keep hs i l e = rest_settled keep hs i (some_series hs i l) l e
