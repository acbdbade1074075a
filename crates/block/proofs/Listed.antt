-- The row at a place of a block.
use Rattle.std.proofs.Common.{◌≡◌, ℕ, zero, suc, ◌+◌, ◌<◌, Bool, true, false, cond, ◌&&◌, List, []}
use Rattle.std.proofs.Common.{◌∷◌, ◌++◌, take, length, get_or, Some, refl, sym, ap, subst, ◌∙◌}
use Rattle.std.proofs.Common.{arith}
use Rattle.std.specs.Prelude.{ℤ, int_lt, int_le, not, slice_get}
use Rattle.std.specs.Int.Signed.{◌<ℤ◌, ◌≤ℤ◌}
use Rattle.std.specs.List.{AllByRecursion}
use Rattle.std.specs.Option.{option_map}
use Rattle.std.proofs.lemmas.Int.{ints}
use Rattle.std.proofs.lemmas.Option.{slice_get-map, slice_get-get_or}
use Rattle.labels.specs.Contents.{in_range}
use Rattle.labels.specs.Labels.{Labels}
use Rattle.labels.specs.Rows.{Row}
use Rattle.labels.specs.Parts.{Part, references, within}
use Rattle.block.specs.Ranges.{covers}
use Rattle.block.specs.Blocks.{AreInside}
use Rattle.block.proofs.Parts.{and_true}
use Rattle.block.proofs.Steps.{take_next}
use Rattle.block.proofs.Turns.{below, upto}

pub not_less : (a b : ℤ) → b ≤ℤ a → int_lt a b ≡ false
not_less a b le = go (int_lt a b) refl
  where
    go : (x : Bool) → int_lt a b ≡ x → x ≡ false
    go true e = let lt : a <ℤ b = below a b e in absurd (omega (arith, ints))
    go false e = refl

time_inside : (range : ℤ × ℤ) (t : ℤ) → covers range t ≡ true → in_range range.0 range.1 t ≡ true
time_inside range t h =
    let ends = and_true (int_le range.0 t) (int_lt t range.1) h in
    let low : range.0 ≤ℤ t = upto range.0 t ends.0 in
    let lt : t <ℤ range.1 = below t range.1 ends.1 in
    let high : t ≤ℤ range.1 = omega (arith, ints) in
    ap (λ b. not b && not (int_lt range.1 t)) (not_less t range.0 low)
    ∙ ap not (not_less range.1 t high)

samples_inside : (range : ℤ × ℤ) (ss : List (ℤ × ℤ))
    → AllByRecursion (λ (s : ℤ × ℤ). covers range s.0 ≡ true) ss → within range.0 range.1 ss ≡ ss
samples_inside range [] a = refl
samples_inside range (s ∷ ss) a =
    ap (λ b. cond b (s ∷ within range.0 range.1 ss) (within range.0 range.1 ss))
    (time_inside range s.0 a.0)
    ∙ ap (λ (xs : List (ℤ × ℤ)). s ∷ xs) (samples_inside range ss a.1)

row_inside : (range : ℤ × ℤ) (part : Part) (i : ℕ) (row : ℕ × Row) → AreInside range part
    → slice_get part i ≡ Some row → within range.0 range.1 row.1.1 ≡ row.1.1
row_inside range [] i row a h = absurd cc
row_inside range (x ∷ xs) zero row a h =
    let same : x ≡ row = cc in
    subst (λ (y : ℕ × Row). within range.0 range.1 y.1.1 ≡ y.1.1) same
    (samples_inside range x.1.1 a.0)
row_inside range (x ∷ xs) (suc i) row a h = row_inside range xs i row a.1 h

same_value : {X : Type 0} (x y : X) → Some x ≡ Some y → x ≡ y
same_value x y e = cc

-- its reference, its label set and its samples in the range of the block are all of it
pub row_is : (range : ℤ × ℤ) (part : Part) (i r : ℕ) (l : Labels) (ss : List (ℤ × ℤ))
    → i < length part → AreInside range part → slice_get (references part) i ≡ Some r
    → ((row : ℕ × Row) → slice_get part i ≡ Some row → l ≡ row.1.0)
    → ((row : ℕ × Row) → slice_get part i ≡ Some row → ss ≡ within range.0 range.1 row.1.1)
    → slice_get part i ≡ Some (r, (l, ss))
row_is range part i r l ss lt inside reference labels samples =
    let row : ℕ × Row = get_or part i (0, ([], [])) in
    let at : slice_get part i ≡ Some row = slice_get-get_or part i (0, ([], [])) lt in
    let one : row.0 ≡ r =
    same_value row.0 r
    (sym (slice_get-map (λ (x : ℕ × Row). x.0) part i ∙ ap (option_map (λ (x : ℕ × Row). x.0)) at)
    ∙ reference) in
    let two : row.1.0 ≡ l = sym (labels row at) in
    let three : row.1.1 ≡ ss = sym (row_inside range part i row inside at) ∙ sym (samples row at) in
    at ∙ ap (λ (x : ℕ × Row). Some x) (λ j. (one j, (two j, three j)))

pub rows_next : (part : Part) (i : ℕ) (row : ℕ × Row) (before after : Part)
    → after ≡ before ++ row ∷ [] → before ≡ take i part → slice_get part i ≡ Some row
    → after ≡ take (i + 1) part
rows_next part i row before after more so_far h =
    more ∙ ap (λ (rows : Part). rows ++ row ∷ []) so_far ∙ sym (take_next part i row h)
