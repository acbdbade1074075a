-- The order of the deletions says nothing of a block.
use Rattle.std.proofs.Common.{◌≡◌, ℕ, Bool, true, false, ◌&&◌, ◌||◌, List, [], ◌∷◌, refl, sym, ap}
use Rattle.std.proofs.Common.{◌∙◌, cond}
use Rattle.std.specs.Prelude.{ℤ, not}
use Rattle.std.specs.List.{list_all, list_any}
use Rattle.std.specs.List.Sorted.{IsPermutation}
use Rattle.std.proofs.lemmas.List.Sorted.{list_any-IsPermutation}
use Rattle.labels.specs.Parts.{Part}
use Rattle.labels.specs.Rows.{Row}
use Rattle.index_reader.specs.Indexes.{Series, Indexed}
use Rattle.tombstones.specs.declared.deletion.Deletion.{Deletion}
use Rattle.tombstones.specs.Covering.{deletes, covered}
use Rattle.block.specs.Samples.{Source, samples_in, undeleted}
use Rattle.block.specs.Blocks.{series_row, part_of_series, shown_of}
use Rattle.block.specs.Opening.{is_known}

pub covered_any_order : (xs ys : List Deletion) → IsPermutation xs ys → (reference : ℕ) (t : ℤ)
    → covered xs reference t ≡ covered ys reference t
covered_any_order xs ys p reference t = list_any-IsPermutation (deletes reference t) xs ys p

undeleted_same : (xs ys : List Deletion) → IsPermutation xs ys
    → (reference : ℕ) (samples : List (ℤ × ℤ))
    → undeleted xs reference samples ≡ undeleted ys reference samples
undeleted_same xs ys p reference [] = refl
undeleted_same xs ys p reference (s ∷ samples) =
    ap (λ (b : Bool). cond (not b) (s ∷ undeleted xs reference samples)
    (undeleted xs reference samples)) (covered_any_order xs ys p reference s.0)
    ∙ ap (λ (rest : List (ℤ × ℤ)). cond (not (covered ys reference s.0)) (s ∷ rest) rest)
    (undeleted_same xs ys p reference samples)

pub undeleted_any_order : (xs ys : List Deletion) → IsPermutation xs ys
    → (reference : ℕ) (samples : List (ℤ × ℤ))
    → undeleted xs reference samples ≡ undeleted ys reference samples
undeleted_any_order xs ys p reference samples = undeleted_same xs ys p reference samples

pub row_any_order : (source : Source) (xs ys : List Deletion) → IsPermutation xs ys → (s : Series)
    → series_row source xs s ≡ series_row source ys s
row_any_order source xs ys p s = ap (λ (samples : List (ℤ × ℤ)). (
  s.reference,
  (s.labels, samples),
)) (undeleted_any_order xs ys p s.reference (samples_in source s.chunks))

pub part_any_order : (source : Source) (xs ys : List Deletion) → IsPermutation xs ys
    → (ss : List Series) → part_of_series source xs ss ≡ part_of_series source ys ss
part_any_order source xs ys p [] = refl
part_any_order source xs ys p (s ∷ ss) =
    ap (λ (row : ℕ × Row). row ∷ part_of_series source xs ss) (row_any_order source xs ys p s)
    ∙ ap (λ (rows : Part). series_row source ys s ∷ rows) (part_any_order source xs ys p ss)

pub shown_any_order : (range : ℤ × ℤ) (source : Source) (x : Indexed) (xs ys : List Deletion)
    → IsPermutation xs ys → shown_of range source x xs ≡ shown_of range source x ys
shown_any_order range source x xs ys p = ap (λ (part : Part). record {
  range = range;
  part = part;
  pairs = x.pairs;
}) (part_any_order source xs ys p x.series)

none_fails : {X : Type 0} (p : X → Bool) (xs : List X)
    → list_all p xs ≡ not (list_any (λ x. not (p x)) xs)
none_fails p [] = refl
none_fails p (x ∷ xs) =
    elim (p x) as (λ b. (b && list_all p xs) ≡ not (not b || list_any (λ y. not (p y)) xs))
    [ true ↦ none_fails p xs | false ↦ refl ]

pub all_any_order : {X : Type 0} (p : X → Bool) (xs ys : List X) → IsPermutation xs ys
    → list_all p xs ≡ list_all p ys
all_any_order p xs ys perm =
    none_fails p xs
    ∙ ap not (list_any-IsPermutation (λ x. not (p x)) xs ys perm)
    ∙ sym (none_fails p ys)

-- whether all deletions are of series that there are
pub known_any_order : (ss : List Series) (xs ys : List Deletion) → IsPermutation xs ys
    → list_all (is_known ss) xs ≡ list_all (is_known ss) ys
known_any_order ss xs ys p = all_any_order (is_known ss) xs ys p
