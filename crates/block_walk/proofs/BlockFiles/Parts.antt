-- The rows of series that were checked are a part.
use Rattle.std.proofs.Common.{◌≡◌, ℕ, suc, ◌+◌, ◌<◌, inl, inr, false, List, [], ◌∷◌, length, get_or, refl, sym, ap, subst, ◌∙◌, arith}
use Rattle.std.specs.Prelude.{ℤ, pos, ◌+ℤ◌, T, not}
use Rattle.std.specs.Int.Signed.{◌≤ℤ◌, ◌<ℤ◌}
use Rattle.std.specs.List.{AllByRecursion, Contains}
use Rattle.std.specs.List.Sorted.{IsStrictlyIncreasing}
use Rattle.std.specs.declared.cmp.Ordering.TheVariants.{Less}
use Rattle.std.specs.Ordering.{int_cmp, is_eq}
use Rattle.std.specs.FinMap.Entries.{is_sorted, is_sorted-where_key}
use Rattle.std.proofs.lemmas.Int.{ints}
use Rattle.std.proofs.lemmas.List.{get_or_default, length-map}
use Rattle.std.proofs.lemmas.List.Elements.{All-from_recursion, All-contains}
use Rattle.labels.specs.Labels.{Labels, labels_cmp, same_labels}
use Rattle.labels.specs.Laws.{labels_total}
use Rattle.labels.specs.Rows.{Row}
use Rattle.labels.specs.Parts.{references, AreDistinct, IsPart}
use Rattle.labels.proofs.Lists.{Contains-cases, none_in_nil}
use Rattle.tombstones.specs.declared.deletion.Deletion.{Deletion}
use Rattle.tombstones.specs.Covering.{covered}
use Rattle.block_walk.specs.declared.chunk.Chunk.{Chunk}
use Rattle.block_walk.specs.IndexFile.Layout.{SeriesEntry, rounded, series_end, Body}
use Rattle.block_walk.specs.IndexFile.Series.{Series, label_sets, chunk_lists, series_of}
use Rattle.block_walk.specs.IndexFile.Series as indexes
use Rattle.block_walk.specs.IndexFile.Spelled.{AreLater, AreChunks, AreBodies, IsIndex}
use Rattle.block_walk.specs.BlockFiles.Samples.{samples_in, undeleted, undeleted_row, part_of}
use Rattle.block_walk.specs.BlockFiles.Sound.{IsHeld, AreBehind, AreInTurn}
use Rattle.block_walk.proofs.IndexFile.Facts.{refs_are, series_length, walk_rises, walk_small, whole_rounds}
use Rattle.block_walk.proofs.IndexFile.Again.{bodies_count}
use Rattle.block_walk.proofs.IndexFile.Whole.{end_inside}
use Rattle.block_walk.proofs.BlockFiles.Turns.{weaker, sorted_in}

-- references

references_same : (file : List ℕ) (deletions : List Deletion) (ss : List Series)
    → references (part_of file deletions ss) ≡ indexes.references ss
references_same file deletions [] = refl
references_same file deletions (s ∷ ss) =
    ap (λ (xs : List ℕ). s.reference ∷ xs) (references_same file deletions ss)

small_at : (ss : List Series) (r : ℕ)
    → ((k : ℕ) → k < length ss → get_or (indexes.references ss) k 0 < 4294967296)
    → Contains (indexes.references ss) r → r < 4294967296
small_at ss r small held =
    let size : length (indexes.references ss) ≡ length ss =
    length-map ss (λ (s : Series). s.reference) in
    let lt : held.0 < length ss = omega (arith, size, held.1) in
    let e : get_or (indexes.references ss) held.0 r ≡ get_or (indexes.references ss) held.0 0 =
    get_or_default (indexes.references ss) held.0 r 0 held.1 in
    omega (arith, small held.0 lt, e, held.2)

-- label sets

tail_ordered : (x : Labels) (xs : List Labels) → ((k : ℕ) → k + 1 < length (x ∷ xs)
    → labels_cmp (get_or (x ∷ xs) k []) (get_or (x ∷ xs) (k + 1) []) ≡ Less)
    → (k : ℕ) → k + 1 < length xs → labels_cmp (get_or xs k []) (get_or xs (k + 1) []) ≡ Less
tail_ordered x xs h k lt =
    let n : suc k + 1 ≡ suc (k + 1) = omega arith in
    subst (λ (m : ℕ). labels_cmp (get_or xs k []) (get_or (x ∷ xs) m []) ≡ Less) n
    (h (suc k) (omega arith))

less_each : (x : Labels) (xs : List Labels) → ((k : ℕ) → k + 1 < length (x ∷ xs)
    → labels_cmp (get_or (x ∷ xs) k []) (get_or (x ∷ xs) (k + 1) []) ≡ Less)
    → AllByRecursion (λ (y : Labels). labels_cmp x y ≡ Less) xs
less_each x [] h = tt
less_each x (y ∷ ys) h =
    let e : labels_cmp x y ≡ Less = h 0 (omega arith) in (
      e,
      weaker (λ (z : Labels). labels_cmp y z ≡ Less) (λ (z : Labels). labels_cmp x z ≡ Less)
          (λ z p. labels_total.trans x y z e p) ys (less_each y ys (tail_ordered x (y ∷ ys) h)),
    )

apart_from : (l : Labels) (file : List ℕ) (deletions : List Deletion) (ss : List Series)
    (other : ℕ × Row) → AllByRecursion (λ (y : Labels). labels_cmp l y ≡ Less) (label_sets ss)
    → Contains (part_of file deletions ss) other
    → same_labels l other.1.0 ≡ false
apart_from l file deletions [] other less held = absurd (none_in_nil other held)
apart_from l file deletions (s ∷ ss) other less held =
    elim (Contains-cases (undeleted_row file deletions s) (part_of file deletions ss) other held) [
      | inl e ↦ subst (λ (row : ℕ × Row). same_labels l row.1.0 ≡ false) e (ap is_eq less.0)
      | inr rest ↦ apart_from l file deletions ss other less.1 rest
    ]

distinct_in : (file : List ℕ) (deletions : List Deletion) (ss : List Series)
    → ((k : ℕ) → k + 1 < length (label_sets ss)
    → labels_cmp (get_or (label_sets ss) k []) (get_or (label_sets ss) (k + 1) []) ≡ Less)
    → AreDistinct (part_of file deletions ss)
distinct_in file deletions [] h = tt
distinct_in file deletions (s ∷ ss) h = (
  λ other held.
      apart_from s.labels file deletions ss other (less_each s.labels (label_sets ss) h) held,
  distinct_in file deletions ss (tail_ordered s.labels (label_sets ss) h),
)

-- times

spanned : (mint maxt : ℤ) (span : ℕ) → maxt ≡ mint +ℤ pos span → mint ≤ℤ maxt
spanned mint maxt span e = omega (arith, ints)

behind : (before mint : ℤ) (gap : ℕ) → 0 < gap → mint ≡ before +ℤ pos gap → before <ℤ mint
behind before mint gap lt e = omega (arith, ints)

behind_each : (before : Chunk) (cs : List Chunk) (text : List ℕ) → AreLater before cs text
    → AreBehind before cs
behind_each before [] text h = tt
behind_each before (c ∷ cs) text h = (
  behind before.maxt c.mint h.3.gap h.3.later h.3.begins,
  spanned c.mint c.maxt h.3.span h.3.ends,
  behind_each c cs h.1 h.4,
)

in_turn : (cs : List Chunk) (text : List ℕ) → AreChunks cs text → AreInTurn cs
in_turn [] text h = tt
in_turn (c ∷ cs) text h = (spanned c.mint c.maxt h.3.span h.3.ends, behind_each c cs h.1 h.4)

turned : (symbols : List (List ℕ)) (ps : List SeriesEntry) (bs : List Body) → AreBodies symbols ps bs
    → AllByRecursion (λ (s : Series). AreInTurn s.chunks) (series_of symbols ps bs)
unfolding series_of
turned symbols [] bs h = tt
turned symbols (p ∷ ps) [] h = tt
turned symbols (p ∷ ps) (b ∷ bs) h =
    (in_turn b.chunks h.0.chunks_text h.0.chunks, turned symbols ps bs h.1)

turned_in : (file : List ℕ) (ss : List Series) → IsIndex file ss
    → AllByRecursion (λ (s : Series). AreInTurn s.chunks) ss
turned_in file ss i =
    subst (AllByRecursion (λ (s : Series). AreInTurn s.chunks)) (sym i.series_are)
    (turned i.parts.symbols i.parts.entries i.bodies i.spelled)

sorted_row : (file : List ℕ) (deletions : List Deletion) (s : Series) → AreInTurn s.chunks
    → AllByRecursion (IsHeld file) s.chunks
    → T (is_sorted int_cmp (undeleted deletions s.reference (samples_in file s.chunks)))
sorted_row file deletions s turn held =
    is_sorted-where_key int_cmp (λ (t : ℤ). not (covered deletions s.reference t))
    (samples_in file s.chunks) (sorted_in file s.chunks turn held)

sorted_rows : (file : List ℕ) (deletions : List Deletion) (ss : List Series)
    → AllByRecursion (λ (s : Series). AreInTurn s.chunks) ss
    → AllByRecursion (AllByRecursion (IsHeld file)) (chunk_lists ss)
    → AllByRecursion (λ (row : ℕ × Row). T (is_sorted int_cmp row.1.1)) (part_of file deletions ss)
sorted_rows file deletions [] turn held = tt
sorted_rows file deletions (s ∷ ss) turn held =
    (sorted_row file deletions s turn.0 held.0, sorted_rows file deletions ss turn.1 held.1)

-- the entries of an index

pub references_rise : (file : List ℕ) (ss : List Series) → IsIndex file ss
    → IsStrictlyIncreasing (indexes.references ss)
references_rise file ss i =
    let p = i.parts in
    let same =
    ap (λ (xs : List Series). indexes.references xs) i.series_are
    ∙ refs_are p.symbols p.entries i.bodies (bodies_count p.symbols p.entries i.bodies i.spelled) in
    subst IsStrictlyIncreasing (sym same) (walk_rises p.entries file (series_end p.contents)
    (rounded p.contents.series) (whole_rounds p.contents.series) i.layout.entries)

references_small : (file : List ℕ) (ss : List Series) → IsIndex file ss → (k : ℕ) → k < length ss
    → get_or (indexes.references ss) k 0 < 4294967296
references_small file ss i k lt =
    let p = i.parts in
    let count = bodies_count p.symbols p.entries i.bodies i.spelled in
    let same =
    ap (λ (xs : List Series). indexes.references xs) i.series_are
    ∙ refs_are p.symbols p.entries i.bodies count in
    let long =
    ap (λ (xs : List Series). length xs) i.series_are
    ∙ series_length p.symbols p.entries i.bodies count in
    let end = end_inside p.contents (length file) i.layout.placed in
    subst (λ (rs : List ℕ). get_or rs k 0 < 4294967296) (sym same)
    (walk_small p.entries file (series_end p.contents) (rounded p.contents.series) i.layout.entries
    (omega (arith, end, i.layout.placed.short)) k (omega (arith, lt, long, count)))

-- the whole

pub is_part : (index file : List ℕ) (ss : List Series) (deletions : List Deletion)
    → IsIndex index ss → AllByRecursion (AllByRecursion (IsHeld file)) (chunk_lists ss)
    → IsPart (part_of file deletions ss)
is_part index file ss deletions i held =
    let same = references_same file deletions ss in
    let size : length (label_sets ss) ≡ length ss = length-map ss (λ (s : Series). s.labels) in
    record {
      ascending = subst IsStrictlyIncreasing (sym same) (references_rise index ss i);
      in_range =
          λ r inside. small_at ss r (references_small index ss i)
          (subst (λ (xs : List ℕ). Contains xs r) same inside);
      distinct = distinct_in file deletions ss (λ k lt. i.in_order k (omega (arith, size, lt)));
      times =
          λ row inside. All-contains (λ (r : ℕ × Row). T (is_sorted int_cmp r.1.1))
          (part_of file deletions ss) row
          (All-from_recursion (λ (r : ℕ × Row). T (is_sorted int_cmp r.1.1)) (part_of file deletions
          ss) (sorted_rows file deletions ss (turned_in index ss i) held)) inside;
    }
