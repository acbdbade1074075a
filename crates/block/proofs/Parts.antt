-- A sound block is a part, and its samples lie in its range.
use Rattle.std.proofs.Common.{◌≡◌, ℕ, suc, ◌+◌, ◌<◌, inl, inr, Bool, true, false, ◌&&◌, List, []}
use Rattle.std.proofs.Common.{◌∷◌, length, get_or, refl, sym, ap, subst, arith}
use Rattle.std.specs.Prelude.{ℤ, int_lt, int_le, T, not}
use Rattle.std.specs.Int.Signed.{◌<ℤ◌, ◌≤ℤ◌}
use Rattle.std.specs.List.{AllByRecursion, Contains}
use Rattle.std.specs.List.Sorted.{IsStrictlyIncreasing}
use Rattle.std.specs.declared.cmp.Ordering.TheVariants.{Less}
use Rattle.std.specs.Ordering.{int_cmp, is_eq}
use Rattle.std.specs.FinMap.Entries.{is_sorted, is_sorted-where_key}
use Rattle.std.proofs.lemmas.Int.{ints}
use Rattle.std.proofs.lemmas.List.{get_or_default, length-map}
use Rattle.std.proofs.lemmas.List.Elements.{All-from_recursion, All-contains}
use Rattle.labels.specs.Labels.{Labels, labels_cmp, same_labels}
use Rattle.labels.specs.Laws.{labels_total}
use Rattle.labels.specs.Rows.{Row}
use Rattle.labels.specs.Parts.{references, AreDistinct, IsPart}
use Rattle.labels.proofs.Lists.{Contains-cases, none_in_nil}
use Rattle.index_reader.specs.declared.chunk.Chunk.{Chunk}
use Rattle.index_reader.specs.Indexes.{Series, Indexed, label_sets}
use Rattle.index_reader.specs.Indexes as indexes
use Rattle.tombstones.specs.declared.deletion.Deletion.{Deletion}
use Rattle.tombstones.specs.Covering.{covered}
use Rattle.block.specs.Ranges.{covers}
use Rattle.block.specs.Samples.{Source, samples_in, undeleted}
use Rattle.block.specs.Blocks.{series_row, part_of_series, AreInside}
use Rattle.block.specs.Sound.{lies_in, IsHeldChunk, IsStored, IsSoundBlock}
use Rattle.block.proofs.Turns.{weaker, all_append, all_filter, is_below, is_upto, below, upto}
use Rattle.block.proofs.Turns.{span_of, sorted_in}

-- references

pub references_same : (source : Source) (deletions : List Deletion) (ss : List Series)
    → references (part_of_series source deletions ss) ≡ indexes.references ss
references_same source deletions [] = refl
references_same source deletions (s ∷ ss) =
    ap (λ (xs : List ℕ). s.reference ∷ xs) (references_same source deletions ss)

small_at : (ss : List Series) (r : ℕ)
    → ((k : ℕ) → k < length ss → get_or (indexes.references ss) k 0 < 4294967296)
    → Contains (indexes.references ss) r → r < 4294967296
small_at ss r small held =
    let size : length (indexes.references ss) ≡ length ss =
    length-map ss (λ (s : Series). s.reference) in
    let lt : held.0 < length ss = omega (arith, size, held.1) in
    let e : get_or (indexes.references ss) held.0 r ≡ get_or (indexes.references ss) held.0 0 =
    get_or_default (indexes.references ss) held.0 r 0 held.1 in
    omega (arith, small held.0 lt, e, held.2)

-- label sets

tail_ordered : (x : Labels) (xs : List Labels) → ((k : ℕ) → k + 1 < length (x ∷ xs)
    → labels_cmp (get_or (x ∷ xs) k []) (get_or (x ∷ xs) (k + 1) []) ≡ Less)
    → (k : ℕ) → k + 1 < length xs → labels_cmp (get_or xs k []) (get_or xs (k + 1) []) ≡ Less
tail_ordered x xs h k lt =
    let n : suc k + 1 ≡ suc (k + 1) = omega arith in
    subst (λ (m : ℕ). labels_cmp (get_or xs k []) (get_or (x ∷ xs) m []) ≡ Less) n
    (h (suc k) (omega arith))

less_each : (x : Labels) (xs : List Labels) → ((k : ℕ) → k + 1 < length (x ∷ xs)
    → labels_cmp (get_or (x ∷ xs) k []) (get_or (x ∷ xs) (k + 1) []) ≡ Less)
    → AllByRecursion (λ (y : Labels). labels_cmp x y ≡ Less) xs
less_each x [] h = tt
less_each x (y ∷ ys) h =
    let e : labels_cmp x y ≡ Less = h 0 (omega arith) in (
      e,
      weaker (λ (z : Labels). labels_cmp y z ≡ Less) (λ (z : Labels). labels_cmp x z ≡ Less)
          (λ z p. labels_total.trans x y z e p) ys (less_each y ys (tail_ordered x (y ∷ ys) h)),
    )

apart_from : (l : Labels) (source : Source) (deletions : List Deletion) (ss : List Series)
    (other : ℕ × Row) → AllByRecursion (λ (y : Labels). labels_cmp l y ≡ Less) (label_sets ss)
    → Contains (part_of_series source deletions ss) other
    → same_labels l other.1.0 ≡ false
apart_from l source deletions [] other less held = absurd (none_in_nil other held)
apart_from l source deletions (s ∷ ss) other less held =
    elim (Contains-cases (series_row source deletions s) (part_of_series source deletions ss) other held) [
      | inl e ↦ subst (λ (row : ℕ × Row). same_labels l row.1.0 ≡ false) e (ap is_eq less.0)
      | inr rest ↦ apart_from l source deletions ss other less.1 rest
    ]

distinct_in : (source : Source) (deletions : List Deletion) (ss : List Series)
    → ((k : ℕ) → k + 1 < length (label_sets ss)
    → labels_cmp (get_or (label_sets ss) k []) (get_or (label_sets ss) (k + 1) []) ≡ Less)
    → AreDistinct (part_of_series source deletions ss)
distinct_in source deletions [] h = tt
distinct_in source deletions (s ∷ ss) h = (
  λ other held.
      apart_from s.labels source deletions ss other (less_each s.labels (label_sets ss) h) held,
  distinct_in source deletions ss (tail_ordered s.labels (label_sets ss) h),
)

-- times

pub sorted_row : (range : ℤ × ℤ) (source : Source) (deletions : List Deletion) (s : Series)
    → IsStored range source s
    → T (is_sorted int_cmp (undeleted deletions s.reference (samples_in source s.chunks)))
sorted_row range source deletions s x =
    is_sorted-where_key int_cmp (λ (t : ℤ). not (covered deletions s.reference t))
    (samples_in source s.chunks) (sorted_in source s.chunks x.in_turn x.held)

sorted_rows : (range : ℤ × ℤ) (source : Source) (deletions : List Deletion) (ss : List Series)
    → AllByRecursion (IsStored range source) ss
    → AllByRecursion (λ (row : ℕ × Row). T (is_sorted int_cmp row.1.1)) (part_of_series source deletions ss)
sorted_rows range source deletions [] a = tt
sorted_rows range source deletions (s ∷ ss) a =
    (sorted_row range source deletions s a.0, sorted_rows range source deletions ss a.1)

pub is_part : (range : ℤ × ℤ) (source : Source) (x : Indexed) (deletions : List Deletion)
    → IsSoundBlock range source x → IsPart (part_of_series source deletions x.series)
is_part range source x deletions sound =
    let same = references_same source deletions x.series in
    let size : length (label_sets x.series) ≡ length x.series =
    length-map x.series (λ (s : Series). s.labels) in
    record {
      ascending = subst IsStrictlyIncreasing (sym same) sound.consistent.ascending;
      in_range =
          λ r held. small_at x.series r sound.consistent.small
          (subst (λ (xs : List ℕ). Contains xs r) same held);
      distinct =
          distinct_in source deletions x.series (λ k lt.
          sound.consistent.in_order k (omega (arith, size, lt)));
      times =
          λ row held. All-contains (λ (r : ℕ × Row). T (is_sorted int_cmp r.1.1))
          (part_of_series source deletions x.series) row
          (All-from_recursion (λ (r : ℕ × Row). T (is_sorted int_cmp r.1.1)) (part_of_series source deletions
          x.series) (sorted_rows range source deletions x.series sound.stored)) held;
    }

-- the range

pub and_true : (a b : Bool) → (a && b) ≡ true → (a ≡ true) × (b ≡ true)
and_true true b h = (refl, h)
and_true false b h = absurd cc

both_true : (a b : Bool) → a ≡ true → b ≡ true → (a && b) ≡ true
both_true true b e f = f
both_true false b e f = absurd cc

covered_all : (range : ℤ × ℤ) (mint maxt : ℤ) (ss : List (ℤ × ℤ)) → range.0 ≤ℤ mint
    → maxt <ℤ range.1 → AllByRecursion (λ (s : ℤ × ℤ). mint ≤ℤ s.0) ss
    → AllByRecursion (λ (s : ℤ × ℤ). s.0 ≤ℤ maxt) ss
    → AllByRecursion (λ (s : ℤ × ℤ). covers range s.0 ≡ true) ss
covered_all range mint maxt [] le lt a b = tt
covered_all range mint maxt (s ∷ ss) le lt a b =
    let low : mint ≤ℤ s.0 = a.0 in
    let high : s.0 ≤ℤ maxt = b.0 in
    let first : range.0 ≤ℤ s.0 = omega (arith, ints) in
    let last : s.0 <ℤ range.1 = omega (arith, ints) in (
      both_true (int_le range.0 s.0) (int_lt s.0 range.1) (is_upto range.0 s.0 first)
          (is_below s.0 range.1 last),
      covered_all range mint maxt ss le lt a.1 b.1,
    )

pub chunk_inside : (range : ℤ × ℤ) (source : Source) (c : Chunk) → IsHeldChunk source c
    → lies_in range c ≡ true
    → AllByRecursion (λ (s : ℤ × ℤ). covers range s.0 ≡ true) (source c)
chunk_inside range source c held inside =
    let span = span_of source c held in
    let ends = and_true (int_le range.0 c.mint) (int_lt c.maxt range.1) inside in
    covered_all range c.mint c.maxt (source c) (upto range.0 c.mint ends.0)
    (below c.maxt range.1 ends.1) span.begin span.end

pub chunks_inside : (range : ℤ × ℤ) (source : Source) (cs : List Chunk)
    → AllByRecursion (IsHeldChunk source) cs → AllByRecursion (λ (c : Chunk). lies_in range c ≡ true) cs
    → AllByRecursion (λ (s : ℤ × ℤ). covers range s.0 ≡ true) (samples_in source cs)
chunks_inside range source [] held inside = tt
chunks_inside range source (c ∷ cs) held inside =
    all_append (λ (s : ℤ × ℤ). covers range s.0 ≡ true) (source c) (samples_in source cs)
    (chunk_inside range source c held.0 inside.0) (chunks_inside range source cs held.1 inside.1)

inside_each : (range : ℤ × ℤ) (source : Source) (deletions : List Deletion) (ss : List Series)
    → AllByRecursion (IsStored range source) ss → AreInside range (part_of_series source deletions ss)
inside_each range source deletions [] a = tt
inside_each range source deletions (s ∷ ss) a = (
  all_filter (λ (e : ℤ × ℤ). covers range e.0 ≡ true)
      (λ (e : ℤ × ℤ). not (covered deletions s.reference e.0)) (samples_in source s.chunks)
      (chunks_inside range source s.chunks a.0.held a.0.inside),
  inside_each range source deletions ss a.1,
)

pub is_inside : (range : ℤ × ℤ) (source : Source) (x : Indexed) (deletions : List Deletion)
    → IsSoundBlock range source x → AreInside range (part_of_series source deletions x.series)
is_inside range source x deletions sound = inside_each range source deletions x.series sound.stored
