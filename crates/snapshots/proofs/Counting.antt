-- Lists of entries that one more joins.
use Rattle.std.proofs.Common.{◌≡◌, ◌≢◌, ℕ, ◌+◌, ◌<◌, ◌==◌, Bool, true, false, if◌then◌else◌, List, [], ◌∷◌, ◌++◌, length, slice_index, slice_set}
use Rattle.std.proofs.Common.{refl, sym, ap, ◌∙◌, subst, arith, length-set}
use Rattle.std.proofs.lemmas.List.{get_or-set_same, get_or-set_other}
use Rattle.std.proofs.lemmas.Bool.Decides.{nat_tests}
use mathlib.Core.List.{IsPrefix}
use Rattle.snapshots.specs.declared.entry.Entry.{Entry}
use Rattle.snapshots.specs.Seats.{SeatView, AreFresh, count_of, AreCounts, FitsSeat, IsMetBy}

pub count_of-snoc : (k : ℕ) (es : List Entry) (e : Entry)
    → count_of k (es ++ e ∷ []) ≡ count_of k es + (if k == e.seat then 1 else 0)
count_of-snoc k [] e = omega arith
count_of-snoc k (f ∷ es) e = omega (arith, count_of-snoc k es e)

counts_at : (counts : List ℕ) (es : List Entry) (e : Entry) → AreCounts counts es
    → e.seat < length counts
    → (k : ℕ) → k < length counts → (b : Bool) → (k == e.seat) ≡ b
    → slice_index (slice_set counts e.seat (slice_index counts e.seat + 1)) k
    ≡ count_of k es + (if b then 1 else 0)
counts_at counts es e are in_range k le true is =
    let same : k ≡ e.seat = grind (arith, nat_tests) in
    let old = are e.seat in_range in
    rw same (get_or-set_same counts e.seat (slice_index counts e.seat + 1) 0 in_range
    ∙ ap (λ n. n + 1) old)
counts_at counts es e are in_range k le false is =
    let apart : k ≢ e.seat = (λ same. absurd (grind (arith, nat_tests))) in
    get_or-set_other counts e.seat k (slice_index counts e.seat + 1) 0 apart
    ∙ (are k le ∙ omega arith)

pub counts_grow : (counts : List ℕ) (es : List Entry) (e : Entry) → AreCounts counts es
    → e.seat < length counts
    → AreCounts (slice_set counts e.seat (slice_index counts e.seat + 1)) (es ++ e ∷ [])
counts_grow counts es e are in_range k less =
    let within =
    subst (λ n. k < n) (length-set counts e.seat (slice_index counts e.seat + 1)) less in
    counts_at counts es e are in_range k within (k == e.seat) refl ∙ sym (count_of-snoc k es e)

count_one : (k : ℕ) (b : Bool) → (k == k) ≡ b → ◌≡◌ {A = ℕ} (if b then 1 else 0) 1
count_one k true is = refl
count_one k false is = absurd (grind (arith, nat_tests))

pub counts_own : (counts : List ℕ) (es : List Entry) (e : Entry) → AreCounts counts es
    → e.seat < length counts
    → count_of e.seat (es ++ e ∷ []) ≡ slice_index counts e.seat + 1
counts_own counts es e are in_range =
    let old = are e.seat in_range in
    let one = count_one e.seat (e.seat == e.seat) refl in
    omega (arith, count_of-snoc e.seat es e)

-- one event more of a seat
pub count_more : (number : ℕ) (es all : List Entry) (e : Entry) → all ≡ es ++ e ∷ []
    → e.seat ≡ number → count_of number all ≡ count_of number es + 1
count_more number es all e is seat =
    rw (is, ← seat)
    (let one = count_one e.seat (e.seat == e.seat) refl in omega (arith, count_of-snoc e.seat es e))

-- the counts where one event more was published, and the count of its seat is one more
pub counts_next : (counts : List ℕ) (es all : List Entry) (e : Entry) (number n : ℕ)
    → AreCounts counts es
    → all ≡ es ++ e ∷ [] → e.seat ≡ number → number < length counts
    → n ≡ slice_index counts number + 1
    → AreCounts (slice_set counts number n) all
counts_next counts es all e number n are is seat in_range more =
    rw (is, more, ← seat)
    (counts_grow counts es e are (subst (λ (k : ℕ). k < length counts) (sym seat) in_range))

-- and there are as many events of that seat
pub counted_next : (counts : List ℕ) (es all : List Entry) (e : Entry) (number n : ℕ)
    → AreCounts counts es
    → all ≡ es ++ e ∷ [] → e.seat ≡ number → number < length counts
    → n ≡ slice_index counts number + 1
    → count_of number all ≡ n
counted_next counts es all e number n are is seat in_range more =
    rw (is, more, ← seat)
    (counts_own counts es e are (subst (λ (k : ℕ). k < length counts) (sym seat) in_range))

-- the list of a book is one that a seat which fits the book may meet, if it begins with what the
-- seat has seen
pub met_by : (seat : SeatView) (counts : List ℕ) (es : List Entry) → AreCounts counts es
    → FitsSeat seat counts → IsPrefix seat.seen es → IsMetBy seat es
met_by seat counts es are fits begins = record {
  begins = begins;
  counted = sym (are seat.number fits.0) ∙ fits.1;
}

-- seats that differ in nothing but how their list is written
pub same_seen : (number count : ℕ) (xs ys : List Entry) → xs ≡ ys
    → ◌≡◌ {A = SeatView} (record { number = number; count = count; seen = xs })
    (record { number = number; count = count; seen = ys })
same_seen number count xs ys e =
    λ i. record { number = number; count = count; seen = e i }

pub fresh-snoc : (n m : ℕ) (ss : List SeatView) (s : SeatView)
    → AreFresh n ss → length ss ≡ m → s.number ≡ n + m → s.count ≡ 0 → s.seen ≡ []
    → AreFresh n (ss ++ s ∷ [])
fresh-snoc n m [] s h len is zero none = (omega arith, zero, none, tt)
fresh-snoc n m (t ∷ ss) s h len is zero none =
    (h.0, h.1, h.2, fresh-snoc (n + 1) (length ss) ss s h.3 refl (omega arith) zero none)
