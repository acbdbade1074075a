-- Times that rise are strictly ascending and within the times, and such times rise.
use Rattle.std.proofs.Common.{◌≡◌, ℕ, suc, ◌+◌, ◌≤◌, Bool, true, false, ◌&&◌, not, List, [], ◌∷◌}
use Rattle.std.proofs.Common.{◌++◌, length, take, drop, Some, pos, ◌-ℤ◌, refl, sym, ap, ◌∙◌, arith}
use Rattle.std.specs.Prelude.{ℤ, int_lt, int_le, slice_get, T}
use Rattle.std.specs.Int.Signed.{◌<ℤ◌, ◌≤ℤ◌, lt_z, le_z, lt_z_yes, lt_z_no}
use Rattle.std.specs.List.{list_all}
use Rattle.std.specs.declared.cmp.Ordering.{Ordering}
use Rattle.std.specs.declared.cmp.Ordering.TheVariants.{Less, Equal, Greater}
use Rattle.std.specs.Ordering.{int_cmp, is_lt}
use Rattle.std.specs.FinMap.Entries.{is_sorted, below_all}
use Rattle.std.proofs.Math.Seq.{drop-cons}
use Rattle.std.proofs.lemmas.Int.{ints}
use Rattle.std.proofs.lemmas.Grind.{take_at_read}
use Rattle.std.proofs.lemmas.List.{drop_all}
use Rattle.std.proofs.lemmas.Option.{slice_get_within, get_or_from_slice_get}
use Rattle.labels.specs.Contents.{is_time}
use Rattle.labels.specs.declared.sample.TheConstants.{MIN_TIME, MAX_TIME}
use Rattle.labels.proofs.Times.{both_T, first_T, second_T, T_of, less_of, lt_of}
use Rattle.chunk_reader.specs.Reading.{rises}

pub and_true : (a b : Bool) → (a && b) ≡ true → (a ≡ true) × (b ≡ true)
and_true true b h = (refl, h)
and_true false b h = absurd cc

-- the sample at a place and those after it
from_place : (samples : List (ℤ × ℤ)) (i : ℕ) (s : ℤ × ℤ) → slice_get samples i ≡ Some s
    → drop i samples ≡ s ∷ drop (i + 1) samples
from_place samples i s h =
    let d : ℤ × ℤ = (pos 0, pos 0) in
    let within = slice_get_within samples i s h in
    let next : suc i ≡ i + 1 = omega arith in
    drop-cons samples i d within
    ∙ ap (λ (x : ℤ × ℤ). x ∷ drop (suc i) samples) (get_or_from_slice_get samples i s d h)
    ∙ ap (λ (n : ℕ). s ∷ drop n samples) next

pub take_next : (samples : List (ℤ × ℤ)) (i : ℕ) (s : ℤ × ℤ) → slice_get samples i ≡ Some s
    → take (i + 1) samples ≡ take i samples ++ s ∷ []
take_next samples i s h =
    let d : ℤ × ℤ = (pos 0, pos 0) in
    (take_at_read samples i d (slice_get_within samples i s h)).1
    ∙ ap (λ (x : ℤ × ℤ). take i samples ++ x ∷ []) (get_or_from_slice_get samples i s d h)

-- how reading at a place goes on, and where it stops; `time` is the time of the sample there
pub goes_on : (before time : ℤ) (samples : List (ℤ × ℤ)) (i : ℕ) (s : ℤ × ℤ) (whole : Bool)
    → slice_get samples i ≡ Some s → time ≡ s.0
    → (int_lt before time && int_le time MAX_TIME) ≡ true
    → rises before (drop i samples) ≡ whole → rises time (drop (i + 1) samples) ≡ whole
unfolding rises
goes_on before time samples i s whole h same t so_far =
    let test : (int_lt before s.0 && int_le s.0 MAX_TIME) ≡ true =
    ap (λ (x : ℤ). int_lt before x && int_le x MAX_TIME) (sym same) ∙ t in
    let one : rises before (s ∷ drop (i + 1) samples) ≡ rises s.0 (drop (i + 1) samples) =
    rw test refl in
    ap (λ (x : ℤ). rises x (drop (i + 1) samples)) same
    ∙ sym one
    ∙ sym (ap (rises before) (from_place samples i s h))
    ∙ so_far

pub stops : (before time : ℤ) (samples : List (ℤ × ℤ)) (i : ℕ) (s : ℤ × ℤ) (whole : Bool)
    → slice_get samples i ≡ Some s → time ≡ s.0
    → (int_lt before time && int_le time MAX_TIME) ≡ false
    → rises before (drop i samples) ≡ whole → false ≡ whole
unfolding rises
stops before time samples i s whole h same t so_far =
    let test : (int_lt before s.0 && int_le s.0 MAX_TIME) ≡ false =
    ap (λ (x : ℤ). int_lt before x && int_le x MAX_TIME) (sym same) ∙ t in
    let one : rises before (s ∷ drop (i + 1) samples) ≡ false = rw test refl in
    sym one ∙ sym (ap (rises before) (from_place samples i s h)) ∙ so_far

pub rises_past : (before : ℤ) (samples : List (ℤ × ℤ)) (i : ℕ) → length samples ≤ i
    → rises before (drop i samples) ≡ true
unfolding rises
rises_past before samples i le = ap (rises before) (drop_all i samples le)

-- a test as a fact, and back
true_from : (b : Bool) → T b → b ≡ true
true_from true h = refl
true_from false h = absurd h

under : (a b : ℤ) → int_lt a b ≡ true → a <ℤ b
under a b h = lt_z_yes (T_of _ h)

is_under : (a b : ℤ) → a <ℤ b → int_lt a b ≡ true
is_under a b h = true_from _ h.lt

is_within : (a b : ℤ) → a ≤ℤ b → int_le a b ≡ true
is_within a b h = true_from _ h.le

not_false : (b : Bool) → (b ≡ true → ⊥) → T (not b)
not_false true h = h refl
not_false false h = tt

not_under : (a b : ℤ) → b ≤ℤ a → T (not (int_lt a b))
not_under a b le =
    not_false (int_lt a b) (λ h. let lt : a <ℤ b = under a b h in absurd (omega (arith, ints)))

is_less_T : (a b : ℤ) → a <ℤ b → T (is_lt (int_cmp a b))
is_less_T a b lt = T_of _ (ap is_lt (less_of a b (is_under a b lt)))

less_from : (o : Ordering) → T (is_lt o) → o ≡ Less
less_from Less h = refl
less_from Equal h = absurd h
less_from Greater h = absurd h

-- the first of times that rise, and the others
record Step (before : ℤ) (s : ℤ × ℤ) (samples : List (ℤ × ℤ)) : Type 0 where
  above : before <ℤ s.0
  small : int_le s.0 MAX_TIME ≡ true
  others : rises s.0 samples ≡ true

step : (before : ℤ) (s : ℤ × ℤ) (samples : List (ℤ × ℤ)) → rises before (s ∷ samples) ≡ true
    → Step before s samples
unfolding rises
step before s samples h =
    let a = and_true (int_lt before s.0 && int_le s.0 MAX_TIME) (rises s.0 samples) h in
    let b = and_true (int_lt before s.0) (int_le s.0 MAX_TIME) a.0 in
    record { above = under before s.0 b.0; small = b.1; others = a.1 }

below_rising : (a before : ℤ) (samples : List (ℤ × ℤ)) → a ≤ℤ before → rises before samples ≡ true
    → T (below_all int_cmp a samples)
below_rising a before [] le h = tt
below_rising a before (s ∷ samples) le h =
    let g = step before s samples h in
    let above = g.above in
    let lt : a <ℤ s.0 = omega (arith, ints) in
    both_T _ _ (is_less_T a s.0 lt) (below_rising a s.0 samples (omega (arith, ints)) g.others)

pub rises-is_sorted : (before : ℤ) (samples : List (ℤ × ℤ)) → rises before samples ≡ true
    → T (is_sorted int_cmp samples)
rises-is_sorted before [] h = tt
rises-is_sorted before (s ∷ samples) h =
    let g = step before s samples h in
    both_T _ _ (below_rising s.0 s.0 samples (omega (arith, ints)) g.others)
    (rises-is_sorted s.0 samples g.others)

pub rises-times : (before : ℤ) (samples : List (ℤ × ℤ)) → (MIN_TIME -ℤ pos 1) ≤ℤ before
    → rises before samples ≡ true
    → T (list_all (λ (s : ℤ × ℤ). is_time s.0) samples)
rises-times before [] le h = tt
rises-times before (s ∷ samples) le h =
    let g = step before s samples h in
    let above = g.above in
    let low : MIN_TIME ≤ℤ s.0 = omega (arith, ints) in
    let high : s.0 ≤ℤ MAX_TIME = record { le = T_of _ g.small } in
    both_T _ _ (both_T _ _ (not_under s.0 MIN_TIME low) (not_under MAX_TIME s.0 high))
    (rises-times s.0 samples (omega (arith, ints)) g.others)

rises_above : (before : ℤ) (samples : List (ℤ × ℤ)) → T (below_all int_cmp before samples)
    → T (is_sorted int_cmp samples)
    → T (list_all (λ (s : ℤ × ℤ). is_time s.0) samples)
    → rises before samples ≡ true
unfolding rises
rises_above before [] below ascending times = refl
rises_above before (s ∷ samples) below ascending times =
    let lt : int_lt before s.0 ≡ true =
    lt_of before s.0
    (less_from _ (first_T (is_lt (int_cmp before s.0)) (below_all int_cmp before samples) below)) in
    let time =
    first_T (is_time s.0)
    (list_all (λ (s : ℤ × ℤ). is_time s.0) samples) times in
    let high : s.0 ≤ℤ MAX_TIME =
    lt_z_no (second_T (not (int_lt s.0 MIN_TIME)) (not (int_lt MAX_TIME s.0)) time) in
    let below_others =
    first_T (below_all int_cmp s.0 samples) (is_sorted int_cmp samples) ascending in
    let others : rises s.0 samples ≡ true =
    rises_above s.0 samples below_others (second_T (below_all int_cmp s.0 samples)
    (is_sorted int_cmp samples) ascending) (second_T (is_time s.0)
    (list_all (λ (s : ℤ × ℤ). is_time s.0) samples) times) in
    rw (lt, is_within s.0 MAX_TIME high, others) refl

below_times : (samples : List (ℤ × ℤ))
    → T (list_all (λ (s : ℤ × ℤ). is_time s.0) samples)
    → T (below_all int_cmp (MIN_TIME -ℤ pos 1) samples)
below_times [] times = tt
below_times (s ∷ samples) times =
    let time =
    first_T (is_time s.0)
    (list_all (λ (s : ℤ × ℤ). is_time s.0) samples) times in
    let low : MIN_TIME ≤ℤ s.0 =
    lt_z_no (first_T (not (int_lt s.0 MIN_TIME)) (not (int_lt MAX_TIME s.0)) time) in
    let lt : (MIN_TIME -ℤ pos 1) <ℤ s.0 = omega (arith, ints) in
    both_T _ _ (is_less_T (MIN_TIME -ℤ pos 1) s.0 lt)
    (below_times samples (second_T (is_time s.0)
    (list_all (λ (s : ℤ × ℤ). is_time s.0) samples) times))

pub rises_from_times : (samples : List (ℤ × ℤ)) → T (is_sorted int_cmp samples)
    → T (list_all (λ (s : ℤ × ℤ). is_time s.0) samples)
    → rises (MIN_TIME -ℤ pos 1) samples ≡ true
rises_from_times samples ascending times =
    rises_above (MIN_TIME -ℤ pos 1) samples (below_times samples times) ascending times
