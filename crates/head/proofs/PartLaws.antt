-- A sound head is a part.
use Rattle.std.specs.Prelude.{◌≡◌, ◌≢◌, ◌<◌, ◌≤◌, ◌-◌, ◌⊎◌, nat_eq, ℕ, zero, suc, ℤ, ◌+◌, Bool, true, false, cond, T, List, [], ◌∷◌, Option, None, Some, Result, Ok, Err, refl, length, is_some, nat_le, int_lt, slice_index_or, if◌then◌else◌}
use Rattle.std.specs.Ordering.{int_cmp, int_eq}
use Rattle.std.specs.FinMap.Entries.{is_sorted}
use Rattle.std.proofs.Common.{sym, ◌∙◌, ap, subst, arith}
use Rattle.std.proofs.Common.{inl, inr}
use Rattle.std.proofs.lemmas.Bool.Decides.{nat_tests}
use Rattle.std.proofs.lemmas.Bool.{leb-false}
use Rattle.labels.specs.Labels.{Labels, same_labels}
use Rattle.labels.specs.Rows.{Row}
use Rattle.labels.specs.Parts.{references, AreDistinct, IsPart, row_at}
use Rattle.labels.proofs.Times.{true_not_false}
use Rattle.head.specs.Refusals.{Refusal, out_of_bounds, out_of_order, duplicate, limit}
use Rattle.head.specs.Limits.{max_series, max_samples}
use Rattle.head.specs.Heads.{HeadSeries, numbered, head_part, series_at, IsSoundHead}
use Rattle.head.specs.Taking.{extended, grown, head_added, head_added_after, head_added_each}

unequal_above : (n r : ℕ) → r < n → nat_eq n r ≡ false
unequal_above n r h = grind (arith, nat_tests)

unequal_below : (n r : ℕ) → n < r → nat_eq n r ≡ false
unequal_below n r h = grind (arith, nat_tests)

equal_to : (n r : ℕ) → r ≡ n → nat_eq n r ≡ true
equal_to n r h = grind (arith, nat_tests)

pub length-numbered : (n : ℕ) (hs : List HeadSeries) → length (numbered n hs) ≡ length hs
length-numbered n [] = refl
length-numbered n (h ∷ hs) = ap suc (length-numbered (n + 1) hs)

length-references : (n : ℕ) (hs : List HeadSeries) → length (references (numbered n hs)) ≡ length hs
length-references n [] = refl
length-references n (h ∷ hs) = ap suc (length-references (n + 1) hs)

-- the references count up
reference_at : (n : ℕ) (hs : List HeadSeries) (k d : ℕ) → k < length hs → slice_index_or (references (numbered n hs)) k d ≡ n + k
reference_at n [] k d h = absurd (omega arith)
reference_at n (x ∷ hs) zero d h = omega arith
reference_at n (x ∷ hs) (suc k) d h = let e = reference_at (n + 1) hs k d (omega arith) in omega arith

first_or_later : (l : Labels) (n : ℕ) (x : HeadSeries) (hs : List HeadSeries) (k : ℕ) (d : ℕ × Row) → same_labels l x.labels ≡ false
    → ((j : ℕ) → j < length (numbered (n + 1) hs) → same_labels l (slice_index_or (numbered (n + 1) hs) j d).1.0 ≡ false)
    → k < length (numbered n (x ∷ hs)) → same_labels l (slice_index_or (numbered n (x ∷ hs)) k d).1.0 ≡ false
first_or_later l n x hs zero d other rest h = other
first_or_later l n x hs (suc k) d other rest h = rest k (omega arith)

other_labels : (l : Labels) (n : ℕ) (hs : List HeadSeries) (d : ℕ × Row) → series_at l hs ≡ None → (k : ℕ) → k < length (numbered n hs) → same_labels l (slice_index_or (numbered n hs) k d).1.0 ≡ false
other_labels l n [] d none k h = absurd (omega arith)
other_labels l n (x ∷ hs) d none k h =
    elim (same_labels l x.labels) as (λ b. same_labels l x.labels ≡ b → cond b (Some x) (series_at l hs) ≡ None → same_labels l (slice_index_or (numbered n (x ∷ hs)) k d).1.0 ≡ false) [
      | true ↦ λ is e. absurd (true_not_false (ap is_some e))
      | false ↦ λ is e. first_or_later l n x hs k d is (other_labels l (n + 1) hs d e) h
    ] refl none

are_distinct : (floor : ℤ) (n : ℕ) (hs : List HeadSeries) → IsSoundHead floor hs → AreDistinct (numbered n hs)
are_distinct floor n [] sound = tt
are_distinct floor n (h ∷ hs) sound =
    (λ other held. subst (λ (row : ℕ × Row). same_labels h.labels row.1.0 ≡ false) held.2 (other_labels h.labels (n + 1) hs other sound.1 held.0 held.1), are_distinct floor (n + 1) hs sound.2)

times_at : (floor : ℤ) (n : ℕ) (hs : List HeadSeries) (k : ℕ) (d : ℕ × Row) → IsSoundHead floor hs → k < length (numbered n hs) → T (is_sorted int_cmp (slice_index_or (numbered n hs) k d).1.1)
times_at floor n [] k d sound h = absurd (omega arith)
times_at floor n (x ∷ hs) zero d sound h = sound.0.ascending
times_at floor n (x ∷ hs) (suc k) d sound h = times_at floor (n + 1) hs k d sound.2 (omega arith)

-- a sound head of few series is a part
pub IsPart-head_part : (floor : ℤ) (hs : List HeadSeries) → IsSoundHead floor hs → length hs ≤ 1048576 → IsPart (head_part hs)
IsPart-head_part floor hs sound few = record {
  ascending = λ k h.
      let size = length-references 1 hs in
      let first = reference_at 1 hs k 0 (omega arith) in
      let second = reference_at 1 hs (k + 1) 0 (omega arith) in
      omega arith;
  in_range = λ r held.
      let inside = held.1 in
      let size = length-references 1 hs in
      let is = held.2 in
      let at = reference_at 1 hs held.0 r (omega arith) in
      omega arith;
  distinct = are_distinct floor 1 hs sound;
  times = λ row held. subst (λ (x : ℕ × Row). T (is_sorted int_cmp x.1.1)) held.2 (times_at floor 1 hs held.0 row sound held.1);
}

abbrev pub more_by : Option HeadSeries → ℕ
more_by None = 1
more_by (Some h) = 0

cond_length : (b : Bool) (l : Labels) (s : ℤ × ℤ) (h : HeadSeries) (hs : List HeadSeries) → length (extended l s hs) ≡ length hs + more_by (series_at l hs)
    → length (cond b (grown s h ∷ hs) (h ∷ extended l s hs)) ≡ suc (length hs) + more_by (cond b (Some h) (series_at l hs))
cond_length true l s h hs e = omega arith
cond_length false l s h hs e = omega arith

length-extended : (l : Labels) (s : ℤ × ℤ) (head : List HeadSeries) → length (extended l s head) ≡ length head + more_by (series_at l head)
length-extended l s [] = refl
length-extended l s (h ∷ hs) = cond_length (same_labels l h.labels) l s h hs (length-extended l s hs)

-- no more series than the limit
abbrev pub IsFew : Result (List HeadSeries) Refusal → Type 0
IsFew (Ok head) = length head ≤ max_series
IsFew (Err e) = Unit {0}

few_if : (b : Bool) (e : Refusal) (r : Result (List HeadSeries) Refusal) → (b ≡ false → IsFew r) → IsFew (if b then Err e else r)
few_if true e r h = tt
few_if false e r h = h refl

few_after : (head : List HeadSeries) (at : ℕ) (l : Labels) (s : ℤ × ℤ) (o : Option HeadSeries) → series_at l head ≡ o → length head ≤ max_series → IsFew (head_added_after head at l s o)
few_after head at l s None is few =
    few_if (nat_le max_series (length head)) limit (Ok (extended l s head))
    (λ e. let below = leb-false max_series (length head) e in let more = length-extended l s head in let by = ap more_by is in omega arith)
few_after head at l s (Some h) is few =
    few_if (int_lt s.0 h.newest.0) (out_of_order at) _ (λ _.
    elim (int_eq s.0 h.newest.0) as (λ b. IsFew (if b then (if int_eq s.1 h.newest.1 then Ok head else Err (duplicate at)) else if nat_le max_samples (length h.samples) then Err limit else Ok (extended l s head))) [
      | true ↦ elim (int_eq s.1 h.newest.1) as (λ b. IsFew (if b then Ok head else Err (duplicate at))) [ true ↦ few | false ↦ tt ]
      | false ↦ few_if (nat_le max_samples (length h.samples)) limit (Ok (extended l s head)) (λ _. let more = length-extended l s head in let by = ap more_by is in omega arith)
    ])

few_added : (floor : ℤ) (head : List HeadSeries) (at : ℕ) (x : Labels × (ℤ × ℤ)) → length head ≤ max_series → IsFew (head_added floor head at x)
unfolding head_added
few_added floor head at x few = few_if (int_lt x.1.0 floor) (out_of_bounds at) _ (λ _. few_after head at x.0 x.1 (series_at x.0 head) refl few)

pub few_each : (floor : ℤ) (r : Result (List HeadSeries) Refusal) (at : ℕ) (xs : List (Labels × (ℤ × ℤ))) → IsFew r → IsFew (head_added_each floor r at xs)
few_each floor r at [] few = few
few_each floor (Err e) at (x ∷ xs) few = tt
few_each floor (Ok head) at (x ∷ xs) few = few_each floor (head_added floor head at x) (at + 1) xs (few_added floor head at x few)

-- a batch leaves no more series than the limit
pub few_after_batch : (floor : ℤ) (head : List HeadSeries) (at : ℕ) (xs : List (Labels × (ℤ × ℤ))) (new : List HeadSeries) → length head ≤ max_series → head_added_each floor (Ok head) at xs ≡ Ok new → length new ≤ max_series
few_after_batch floor head at xs new few is = subst IsFew is (few_each floor (Ok head) at xs few)

-- a reference below the first
row_at-below : (r n : ℕ) (hs : List HeadSeries) → r < n → row_at r (numbered n hs) ≡ None
row_at-below r n [] low = refl
row_at-below r n (h ∷ hs) low =
    ap (λ b. cond b (Some (h.labels, h.samples)) (row_at r (numbered (n + 1) hs))) (unequal_above n r low)
    ∙ row_at-below r (n + 1) hs (omega arith)

-- a reference above the last
row_at-above : (r n : ℕ) (hs : List HeadSeries) → n + length hs ≤ r → row_at r (numbered n hs) ≡ None
row_at-above r n [] high = refl
row_at-above r n (h ∷ hs) high =
    ap (λ b. cond b (Some (h.labels, h.samples)) (row_at r (numbered (n + 1) hs))) (unequal_below n r (omega arith))
    ∙ row_at-above r (n + 1) hs (omega arith)

-- the row of a series
row_at-series : (r n k : ℕ) (hs : List HeadSeries) (d : HeadSeries) → r ≡ n + k → k < length hs → row_at r (numbered n hs) ≡ Some ((slice_index_or hs k d).labels, (slice_index_or hs k d).samples)
row_at-series r n k [] d is inside = absurd (omega arith)
row_at-series r n zero (h ∷ hs) d is inside =
    ap (λ b. cond b (Some (h.labels, h.samples)) (row_at r (numbered (n + 1) hs))) (equal_to n r (omega arith))
row_at-series r n (suc k) (h ∷ hs) d is inside =
    ap (λ b. cond b (Some (h.labels, h.samples)) (row_at r (numbered (n + 1) hs))) (unequal_below n r (omega arith))
    ∙ row_at-series r (n + 1) k hs d (omega arith) (omega arith)

-- no series of a head has the reference 0 or one above their number
pub row_at-none : (r : ℕ) (hs : List HeadSeries) → (r ≡ 0) ⊎ (length hs < r) → row_at r (head_part hs) ≡ None
row_at-none r hs (inl low) = row_at-below r 1 hs (omega arith)
row_at-none r hs (inr high) = row_at-above r 1 hs (omega arith)

-- the row of a reference
pub row_at-head_part : (r : ℕ) (hs : List HeadSeries) (d : HeadSeries) → r ≢ 0 → r ≤ length hs → row_at r (head_part hs) ≡ Some ((slice_index_or hs (r - 1) d).labels, (slice_index_or hs (r - 1) d).samples)
row_at-head_part r hs d low high = row_at-series r 1 (r - 1) hs d (omega arith) (omega arith)

-- the row of the series at a place
pub row_at-place : (r number : ℕ) (hs : List HeadSeries) (h : HeadSeries) → number ≡ r → number ≢ 0 → number ≤ length hs → h ≡ slice_index_or hs (number - 1) h → row_at r (head_part hs) ≡ Some (h.labels, h.samples)
row_at-place r number hs h is low high at =
    subst (λ n. row_at n (head_part hs) ≡ Some (h.labels, h.samples)) is
    (row_at-head_part number hs h low high ∙ ap (λ (x : HeadSeries). Some (x.labels, x.samples)) (sym at))
