-- The rows of the samples that leave a head, and what stays.
use Rattle.std.proofs.Common.{◌≡◌, ◌≢◌, ◌≤◌, ◌<◌, ℕ, zero, suc, ℤ, get_or, Bool, true, false, cond, T, List, [], ◌∷◌, ◌++◌, None, Option, length, refl, sym, ◌∙◌, ap, subst, arith}
use Rattle.std.specs.Prelude.{not, ◌&&◌, int_lt, int_le, filter, pos, ◌-ℤ◌}
use Rattle.std.specs.List.{All, AllByRecursion, list_all}
use Rattle.std.specs.List.Sorted.{IsPermutation, IsSortedBy, IsStableBy}
use Rattle.std.specs.Ordering.{int_cmp}
use Rattle.std.specs.FinMap.Entries.{find, is_sorted, is_sorted-where_key}
use Rattle.std.proofs.lemmas.Int.{ints}
use Rattle.std.proofs.lemmas.List.Elements.{All-cons, All-nil, All-head, All-tail}
use Rattle.std.proofs.lemmas.List.Sorted.{All-permutation, length_permutation}
use Rattle.labels.specs.Labels.{Labels, Point, point_cmp}
use Rattle.labels.specs.Contents.{Content, in_range}
use Rattle.labels.specs.Rows.{Row, points_in, points_of, AreRows, row_before}
use Rattle.labels.specs.Parts.{laid_over, within}
use Rattle.labels.proofs.Restricting.{kept, find-kept, kept-laid_over}
use Rattle.labels.proofs.ContentLaws.{same_content}
use Rattle.labels.proofs.Times.{both_T, first_T, second_T, not_T}
use Rattle.block.specs.Ranges.{covers}
use Rattle.block_writer.specs.PartRows.{is_series, are_part_rows}
use Rattle.block_writer.specs.SpellRows.{IsWithin}
use Rattle.head.specs.Heads.{HeadSeries, SnapshotParts, IsSoundSeries, IsSoundHead, IsSoundSnapshot}
use Rattle.head.specs.HeadRows.{with_row, rows_within}
use Rattle.head.specs.Cuts.{leaving, AreLeaving}
use Rattle.head.specs.Removing.{outside, from_on, series_kept, series_less, head_cut}
use Rattle.head.proofs.HeadLaws.{head_points}
use Rattle.head.proofs.Deleting.{few_left}
use Rattle.head.proofs.Simulates.{below_of as blocks_of, content-world_of, is_sorted-below_of}
use Rattle.head.proofs.CutRows.{points-rows_within, AreRows-within}

-- a closed range ends with the last millisecond before a time
pub before_end : (t u : ℤ) → not (int_lt (t -ℤ pos 1) u) ≡ int_lt u t
before_end t u = grind (arith, ints)

from_start : (from u : ℤ) → int_le from u ≡ not (int_lt u from)
from_start from u = grind (arith, ints)

cond_none : (b : Bool) (o : Option ℤ) → o ≡ None → cond b o None ≡ None
cond_none true o e = e
cond_none false o e = refl

-- no block has a sample that leaves
none_of_blocks : (t : ℤ) (s : SnapshotParts) → IsSoundSnapshot s → kept (λ q. not (int_lt q.1 s.floor) && int_lt q.1 t) (blocks_of s) ≡ []
none_of_blocks t s sound =
    let p : Point → Bool = λ q. not (int_lt q.1 s.floor) && int_lt q.1 t in
    same_content (kept p (blocks_of s)) [] (is_sorted-where_key point_cmp p (blocks_of s) (is_sorted-below_of s)) tt (λ q.
    find-kept p q (blocks_of s)
    ∙ elim (int_lt q.1 s.floor) as (λ b. int_lt q.1 s.floor ≡ b → cond (not b && int_lt q.1 t) (find point_cmp q (blocks_of s)) None ≡ None) [
      | true ↦ λ e. refl
      | false ↦ λ e. cond_none (int_lt q.1 t) (find point_cmp q (blocks_of s)) (sound.blocks.none q.0 q.1 e)
    ] refl)

-- what leaves is what the head's rows from the floor up to the time list
leaving_is : (t : ℤ) (s : SnapshotParts) → IsSoundSnapshot s → leaving t s ≡ laid_over (points_of (rows_within s.floor (t -ℤ pos 1) s.head)) []
leaving_is t s sound =
    let p : Point → Bool = λ q. not (int_lt q.1 s.floor) && int_lt q.1 t in
    ap (kept p) (content-world_of s)
    ∙ kept-laid_over p (head_points s.head) (blocks_of s) (is_sorted-below_of s)
    ∙ (λ i. laid_over (kept (λ q. not (int_lt q.1 s.floor) && sym (before_end t q.1) i) (head_points s.head)) (none_of_blocks t s sound i))
    ∙ ap (λ c. laid_over c []) (sym (points-rows_within s.floor (t -ℤ pos 1) s.head))

each_of : {X : Type 0} (P : X → Type 0) (xs : List X) → All P xs → AllByRecursion P xs
each_of P [] all = tt
each_of P (x ∷ xs) all = (All-head P x xs all, each_of P xs (All-tail P x xs all))

test_of : {X : Type 0} (p : X → Bool) (xs : List X) → All (λ x. T (p x)) xs → T (list_all p xs)
test_of p [] all = tt
test_of p (x ∷ xs) all = both_T _ _ (All-head (λ y. T (p y)) x xs all) (test_of p xs (All-tail (λ y. T (p y)) x xs all))

true_of : (b : Bool) → T b → b ≡ true
true_of true h = refl
true_of false h = absurd h

module _ (from to : ℤ) where
  series_within : (floor : ℤ) (hs : List HeadSeries) → IsSoundHead floor hs → All (λ (r : Row). T (is_series r)) (rows_within from to hs)
  series_within floor [] sound = All-nil (λ (r : Row). T (is_series r))
  series_within floor (h ∷ hs) sound =
      elim (within from to h.samples) as (λ ss. T (is_sorted int_cmp ss) → All (λ (r : Row). T (is_series r)) (with_row h.labels ss (rows_within from to hs))) [
        | [] ↦ λ up. series_within floor hs sound.2
        | s ∷ ss ↦ λ up. All-cons (λ (r : Row). T (is_series r)) (h.labels, s ∷ ss) (rows_within from to hs) up (series_within floor hs sound.2)
      ] (is_sorted-where_key int_cmp (in_range from to) h.samples sound.0.ascending)

  few_rows : (hs : List HeadSeries) → length (rows_within from to hs) ≤ length hs
  few_rows [] = omega arith
  few_rows (h ∷ hs) =
      let rest = few_rows hs in
      elim (within from to h.samples) as (λ ss. length (with_row h.labels ss (rows_within from to hs)) ≤ suc (length hs)) [ [] ↦ omega (arith, rest) | s ∷ ss ↦ omega (arith, rest) ]

covers_is : (from t u : ℤ) → covers (from, t) u ≡ in_range from (t -ℤ pos 1) u
covers_is from t u = λ i. from_start from u i && sym (before_end t u) i

inside_within : (from t : ℤ) (ss : List (ℤ × ℤ)) → AllByRecursion (λ (s : ℤ × ℤ). covers (from, t) s.0 ≡ true) (within from (t -ℤ pos 1) ss)
inside_within from t [] = tt
inside_within from t (s ∷ ss) =
    let rest = inside_within from t ss in
    elim (in_range from (t -ℤ pos 1) s.0) as (λ b. in_range from (t -ℤ pos 1) s.0 ≡ b → AllByRecursion (λ (x : ℤ × ℤ). covers (from, t) x.0 ≡ true) (cond b (s ∷ within from (t -ℤ pos 1) ss) (within from (t -ℤ pos 1) ss))) [
      | true ↦ λ e. (covers_is from t s.0 ∙ e, rest)
      | false ↦ λ e. rest
    ] refl

-- a block from the one time up to the other may have each of the rows
each_within : (from t floor : ℤ) (hs : List HeadSeries) → IsSoundHead floor hs → All (IsWithin (from, t)) (rows_within from (t -ℤ pos 1) hs)
each_within from t floor [] sound = All-nil (IsWithin (from, t))
each_within from t floor (h ∷ hs) sound =
    let rest = each_within from t floor hs sound.2 in
    let left = few_left (λ s. in_range from (t -ℤ pos 1) s.0) h.samples in
    elim (within from (t -ℤ pos 1) h.samples) as (λ ss. length ss ≤ 1048576 → AllByRecursion (λ (s : ℤ × ℤ). covers (from, t) s.0 ≡ true) ss → All (IsWithin (from, t)) (with_row h.labels ss (rows_within from (t -ℤ pos 1) hs))) [
      | [] ↦ λ few inside. rest
      | s ∷ ss ↦ λ few inside. All-cons (IsWithin (from, t)) (h.labels, s ∷ ss) (rows_within from (t -ℤ pos 1) hs) (record { few = few; inside = inside }) rest
    ] (omega (arith, left, sound.0.few)) (inside_within from t h.samples)

-- sorted, the rows from the floor up to the time are those of what leaves
pub leaving_rows : (t : ℤ) (s : SnapshotParts) (found rows : List Row) → IsSoundSnapshot s → length s.head ≤ 1048576 → found ≡ rows_within s.floor (t -ℤ pos 1) s.head
    → IsPermutation found rows → IsSortedBy row_before rows → IsStableBy row_before found rows → AreLeaving t s rows
leaving_rows t s found rows sound few is moved up stable =
    let floor = s.floor in
    let all : List Row = rows_within floor (t -ℤ pos 1) s.head in
    let moves : IsPermutation all rows = subst (λ (xs : List Row). IsPermutation xs rows) is moved in
    let still : IsStableBy row_before all rows = subst (λ (xs : List Row). IsStableBy row_before xs rows) is stable in
    let exact : AreRows rows (laid_over (points_of all) []) = AreRows-within floor (t -ℤ pos 1) floor s.head sound.head rows moves up still in
    let series : T (list_all is_series rows) = test_of is_series rows (All-permutation (λ (r : Row). T (is_series r)) all rows moves (series_within floor (t -ℤ pos 1) floor s.head sound.head)) in
    let size = length_permutation all rows moves in
    let fewer = few_rows floor (t -ℤ pos 1) s.head in
    record {
      exact = subst (AreRows rows) (sym (leaving_is t s sound)) exact;
      writable = true_of (are_part_rows rows) (both_T _ _ exact.ascending series);
      within = record {
        few = omega (arith, size, fewer, few);
        each = each_of (IsWithin (floor, t)) rows (All-permutation (IsWithin (floor, t)) all rows moves (each_within floor t floor s.head sound.head));
      };
    }

-- no row, no sample that leaves
pub none_leave : (c : Content) (rows : List Row) → AreRows rows c → length rows ≡ 0 → c ≡ []
none_leave c [] are none = sym are.points
none_leave c (r ∷ rs) are none = absurd (omega (arith, none))

full_points : (l : Labels) (ss : List (ℤ × ℤ)) (rest : Content) → ss ≢ [] → points_in l ss ++ rest ≢ []
full_points l [] rest full e = full refl
full_points l (s ∷ ss) rest full e = absurd cc

pub some_leave : (c : Content) (rows : List Row) → AreRows rows c → length rows ≢ 0 → c ≢ []
some_leave c [] are some e = some refl
some_leave c (r ∷ rs) are some e = full_points r.0 r.1 (points_of rs) are.full.0 (are.points ∙ e)

not_in_range : (floor t u : ℤ) → int_lt u floor ≡ false → not (in_range floor (t -ℤ pos 1) u) ≡ not (int_lt u t)
not_in_range floor t u high = λ i. not (not (high i) && before_end t u i)

-- without its samples from the floor up to a time, a sound series has those from the time on
same_left : (floor t : ℤ) (ss : List (ℤ × ℤ)) → T (list_all (λ e. not (int_lt e.0 floor)) ss) → outside floor (t -ℤ pos 1) ss ≡ filter (λ s. not (int_lt s.0 t)) ss
same_left floor t [] above = refl
same_left floor t (s ∷ ss) above =
    let rest = same_left floor t ss (second_T _ _ above) in
    λ i. cond (not_in_range floor t s.0 (not_T _ (first_T _ _ above)) i) (s ∷ rest i) (rest i)

pub series_left : (floor t : ℤ) (h : HeadSeries) → IsSoundSeries floor h → series_less floor (t -ℤ pos 1) h ≡ series_kept (from_on t) h
series_left floor t h sound = ap (λ ss. record h { samples = ss }) (same_left floor t h.samples sound.above)

-- one series more, which does not stay
pub head_cut-left : (t : ℤ) (hs : List HeadSeries) (h : HeadSeries) → int_lt h.newest.0 t ≡ true → head_cut t (hs ++ h ∷ []) ≡ head_cut t hs
head_cut-left t [] h low = ap (λ b. cond (not b) (series_kept (from_on t) h ∷ []) []) low
head_cut-left t (x ∷ xs) h low = ap (λ hs. cond (not (int_lt x.newest.0 t)) (series_kept (from_on t) x ∷ hs) hs) (head_cut-left t xs h low)

-- one that stays
pub head_cut-stays : (t : ℤ) (hs : List HeadSeries) (h : HeadSeries) → int_lt h.newest.0 t ≡ false → head_cut t (hs ++ h ∷ []) ≡ head_cut t hs ++ series_kept (from_on t) h ∷ []
head_cut-stays t [] h high = ap (λ b. cond (not b) (series_kept (from_on t) h ∷ []) []) high
head_cut-stays t (x ∷ xs) h high =
    ap (λ hs. cond (not (int_lt x.newest.0 t)) (series_kept (from_on t) x ∷ hs) hs) (head_cut-stays t xs h high)
    ∙ elim (not (int_lt x.newest.0 t)) as (λ b. cond b (series_kept (from_on t) x ∷ (head_cut t xs ++ series_kept (from_on t) h ∷ [])) (head_cut t xs ++ series_kept (from_on t) h ∷ [])
    ≡ cond b (series_kept (from_on t) x ∷ head_cut t xs) (head_cut t xs) ++ series_kept (from_on t) h ∷ []) [ true ↦ refl | false ↦ refl ]

pub length-head_cut : (t : ℤ) (hs : List HeadSeries) → length (head_cut t hs) ≤ length hs
length-head_cut t [] = omega arith
length-head_cut t (h ∷ hs) =
    let rest = length-head_cut t hs in
    elim (not (int_lt h.newest.0 t)) as (λ b. length (cond b (series_kept (from_on t) h ∷ head_cut t hs) (head_cut t hs)) ≤ suc (length hs)) [ true ↦ omega (arith, rest) | false ↦ omega (arith, rest) ]

pub rows_within-more : (from to : ℤ) (hs : List HeadSeries) (h : HeadSeries) → rows_within from to (hs ++ h ∷ []) ≡ rows_within from to hs ++ with_row h.labels (within from to h.samples) []
rows_within-more from to [] h = refl
rows_within-more from to (x ∷ xs) h =
    ap (with_row x.labels (within from to x.samples)) (rows_within-more from to xs h)
    ∙ elim (within from to x.samples) as (λ ss. with_row x.labels ss (rows_within from to xs ++ with_row h.labels (within from to h.samples) []) ≡ with_row x.labels ss (rows_within from to xs) ++ with_row h.labels (within from to h.samples) []) [ [] ↦ refl | s ∷ ss ↦ refl ]

pub sound_place : (floor : ℤ) (hs : List HeadSeries) (i : ℕ) (d : HeadSeries) → i < length hs → IsSoundHead floor hs → IsSoundSeries floor (get_or hs i d)
sound_place floor [] i d l sound = absurd (omega (arith, l))
sound_place floor (h ∷ hs) zero d l sound = sound.0
sound_place floor (h ∷ hs) (suc i) d l sound = sound_place floor hs i d (omega (arith, l)) sound.2
