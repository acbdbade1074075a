-- How many samples are not deleted.
use Rattle.std.proofs.Common.{◌≡◌, ℕ, ◌+◌, ◌-◌, ◌*◌, ◌^◌, ◌<◌, ◌≤◌, min, Bool, true, false, cond}
use Rattle.std.proofs.Common.{List, [], ◌∷◌, ◌++◌, length, take, get_or, Some, refl, sym, ap, ◌∙◌}
use Rattle.std.proofs.Common.{arith}
use Rattle.std.specs.Prelude.{ℤ, slice_get, not, ◌==◌, ◌&&◌, ◌||◌}
use Rattle.std.specs.Option.{option_map}
use Rattle.std.specs.List.{AllByRecursion, filter}
use Rattle.std.proofs.lemmas.List.{length-append, length-map, append-nil, map_more}
use Rattle.std.proofs.lemmas.List.Elements.{filter-append}
use Rattle.std.proofs.lemmas.Grind.{flat_map-append}
use Rattle.std.proofs.lemmas.Option.{slice_get-map, slice_get-get_or, slice_get_within}
use Rattle.labels.specs.Parts.{Part}
use Rattle.index_reader.specs.declared.chunk.Chunk.{Chunk}
use Rattle.index_reader.specs.Indexes.{Series, references, chunk_lists}
use Rattle.tombstones.specs.declared.deletion.Deletion.{Deletion}
use Rattle.tombstones.specs.Covering.{covered, has_deletion, holds}
use Rattle.block.specs.Samples.{Source, samples_in, undeleted}
use Rattle.block.specs.Blocks.{series_row, part_of_series, sample_count}
use Rattle.block.specs.Sound.{IsStored}
use Rattle.block.proofs.Steps.{take_next}

-- where no deletion is of the series
pub none_covers : (ds : List Deletion) (r : ℕ) (t : ℤ) → has_deletion ds r ≡ false
    → covered ds r t ≡ false
none_covers [] r t e = refl
none_covers (d ∷ ds) r t e = go (d.reference == r) e (none_covers ds r t)
  where
    go : (b : Bool) → (b || has_deletion ds r) ≡ false
        → (has_deletion ds r ≡ false → covered ds r t ≡ false)
        → ((b && holds d t) || covered ds r t) ≡ false
    go true h ih = absurd cc
    go false h ih = ih h

pub all_live : (ds : List Deletion) (r : ℕ) (ss : List (ℤ × ℤ)) → has_deletion ds r ≡ false
    → undeleted ds r ss ≡ ss
all_live ds r [] e = refl
all_live ds r (s ∷ ss) e =
    ap (λ (b : Bool). cond (not b) (s ∷ undeleted ds r ss) (undeleted ds r ss))
    (none_covers ds r s.0 e)
    ∙ ap (λ (xs : List (ℤ × ℤ)). s ∷ xs) (all_live ds r ss e)

pub undeleted_append : (ds : List Deletion) (r : ℕ) (xs ys : List (ℤ × ℤ))
    → undeleted ds r (xs ++ ys) ≡ undeleted ds r xs ++ undeleted ds r ys
undeleted_append ds r xs ys = filter-append (λ (s : ℤ × ℤ). not (covered ds r s.0)) xs ys

one_length : (ds : List Deletion) (r : ℕ) (s : ℤ × ℤ) (deleted : Bool) → covered ds r s.0 ≡ deleted
    → length (undeleted ds r (s ∷ [])) ≡ cond deleted 0 1
one_length ds r s true e = rw e refl
one_length ds r s false e = rw e refl

pub live_next : (ds : List Deletion) (r : ℕ) (ss : List (ℤ × ℤ)) (i : ℕ) (s : ℤ × ℤ)
    (deleted : Bool) → slice_get ss i ≡ Some s → covered ds r s.0 ≡ deleted
    → length (undeleted ds r (take (i + 1) ss))
    ≡ length (undeleted ds r (take i ss)) + cond deleted 0 1
live_next ds r ss i s deleted h e =
    let n : length (undeleted ds r (take (i + 1) ss))
    ≡ length (undeleted ds r (take i ss) ++ undeleted ds r (s ∷ [])) =
    ap (λ (xs : List (ℤ × ℤ)). length (undeleted ds r xs)) (take_next ss i s h)
    ∙ ap length (undeleted_append ds r (take i ss) (s ∷ [])) in
    omega (
      arith,
      n,
      length-append (undeleted ds r (take i ss)) (undeleted ds r (s ∷ [])),
      one_length ds r s deleted e,
    )

append_none : (ds : List Deletion) (r : ℕ) (xs : List (ℤ × ℤ))
    → length (undeleted ds r (xs ++ [])) ≡ length (undeleted ds r xs)
append_none ds r xs = ap (λ (ys : List (ℤ × ℤ)). length (undeleted ds r ys)) (append-nil xs)

pub chunks_next : (ds : List Deletion) (r : ℕ) (source : Source) (cs : List Chunk) (i : ℕ) (c : Chunk)
    → slice_get cs i ≡ Some c
    → length (undeleted ds r (samples_in source (take (i + 1) cs)))
    ≡ length (undeleted ds r (samples_in source (take i cs)))
    + length (undeleted ds r (source c))
chunks_next ds r source cs i c h =
    let whole : samples_in source (take (i + 1) cs)
    ≡ samples_in source (take i cs) ++ (source c ++ []) =
    ap (samples_in source) (take_next cs i c h)
    ∙ flat_map-append (source) (take i cs) (c ∷ []) in
    let n : length (undeleted ds r (samples_in source (take (i + 1) cs)))
    ≡ length (undeleted ds r (samples_in source (take i cs))
    ++ undeleted ds r (source c ++ [])) =
    ap (λ (xs : List (ℤ × ℤ)). length (undeleted ds r xs)) whole
    ∙ ap length
    (undeleted_append ds r (samples_in source (take i cs)) (source c ++ [])) in
    omega (
      arith,
      n,
      append_none ds r (source c),
      length-append (undeleted ds r (samples_in source (take i cs)))
          (undeleted ds r (source c ++ [])),
    )

-- all series

count_append : (xs ys : Part) → sample_count (xs ++ ys) ≡ sample_count xs + sample_count ys
count_append [] ys = omega arith
count_append (x ∷ xs) ys = let rest = count_append xs ys in omega arith

none : Series
none = record { reference = 0; labels = []; chunks = [] }

same_value : {X : Type 0} (x y : X) → Some x ≡ Some y → x ≡ y
same_value x y e = cc

pub series_next : (ds : List Deletion) (source : Source) (ss : List Series) (i r : ℕ)
    (cs : List Chunk) → slice_get (references ss) i ≡ Some r
    → slice_get (chunk_lists ss) i ≡ Some cs
    → sample_count (part_of_series source ds (take (i + 1) ss))
    ≡ sample_count (part_of_series source ds (take i ss)) + length (undeleted ds r (samples_in source cs))
series_next ds source ss i r cs g h =
    let size : length (references ss) ≡ length ss = length-map ss (λ (s : Series). s.reference) in
    let lt : i < length ss = omega (arith, size, slice_get_within (references ss) i r g) in
    let s : Series = get_or ss i none in
    let at : slice_get ss i ≡ Some s = slice_get-get_or ss i none lt in
    let one : s.reference ≡ r =
    same_value s.reference r (sym (slice_get-map (λ (x : Series). x.reference) ss i
    ∙ ap (option_map (λ (x : Series). x.reference)) at)
    ∙ g) in
    let two : s.chunks ≡ cs =
    same_value s.chunks cs (sym (slice_get-map (λ (x : Series). x.chunks) ss i
    ∙ ap (option_map (λ (x : Series). x.chunks)) at)
    ∙ h) in
    let e : part_of_series source ds (take (i + 1) ss)
    ≡ part_of_series source ds (take i ss) ++ series_row source ds s ∷ [] =
    map_more (series_row source ds) ss i none lt in
    let n : sample_count (part_of_series source ds (take (i + 1) ss))
    ≡ sample_count (part_of_series source ds (take i ss)) + sample_count (series_row source ds s ∷ []) =
    ap sample_count e ∙ count_append (part_of_series source ds (take i ss)) (series_row source ds s ∷ []) in
    let m : length (undeleted ds s.reference (samples_in source s.chunks))
    ≡ length (undeleted ds r (samples_in source cs)) =
    ap (λ (x : ℕ). length (undeleted ds x (samples_in source s.chunks))) one
    ∙ ap (λ (x : List Chunk). length (undeleted ds r (samples_in source x))) two in
    omega (arith, n, m)

-- a bound

filter_short : {X : Type 0} (test : X → Bool) (xs : List X) → length (filter test xs) ≤ length xs
filter_short test [] = omega arith
filter_short test (x ∷ xs) =
    let rest = filter_short test xs in
    elim (test x) as (λ b. length (cond b (x ∷ filter test xs) (filter test xs)) ≤ length (x ∷ xs))
    [ true ↦ omega arith | false ↦ omega arith ]

pub count_bound : (range : ℤ × ℤ) (source : Source) (ds : List Deletion) (ss : List Series)
    → AllByRecursion (IsStored range source) ss
    → sample_count (part_of_series source ds ss) ≤ 1048576 * length ss
count_bound range source ds [] a = omega arith
count_bound range source ds (s ∷ ss) a =
    let rest = count_bound range source ds ss a.1 in
    let one =
    filter_short (λ (x : ℤ × ℤ). not (covered ds s.reference x.0)) (samples_in source s.chunks) in
    omega (arith, rest, one, a.0.few)

pub count_whole : (range : ℤ × ℤ) (source : Source) (ds : List Deletion) (ss : List Series) (n : ℕ)
    → AllByRecursion (IsStored range source) ss → length ss ≤ 1048576
    → n ≡ min (sample_count (part_of_series source ds ss)) (2 ^ 64 - 1)
    → n ≡ sample_count (part_of_series source ds ss)
count_whole range source ds ss n a few e =
    let bound = count_bound range source ds ss a in omega (arith, bound, few, e)
