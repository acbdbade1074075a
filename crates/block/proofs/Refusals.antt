-- The checks of a block, one after the other.
use Rattle.std.proofs.Common.{◌≡◌, ℕ, Bool, true, false, ◌&&◌, List, [], ◌∷◌, Option, Some, None}
use Rattle.std.proofs.Common.{Result, Ok, Err, refl, sym, ap, subst, ◌∙◌}
use Rattle.std.specs.Prelude.{ℤ, slice_get, IfSome, IfNone, is_some}
use Rattle.std.specs.List.{AllByRecursion, Contains, list_all}
use Rattle.std.specs.List.Sorted.{IsPermutation}
use Rattle.std.proofs.lemmas.Option.{slice_get_within, get_or_from_slice_get}
use Rattle.index_reader.specs.declared.error.IndexError.{IndexError}
use Rattle.index_reader.specs.declared.error.IndexError.TheVariants as index
use Rattle.index_reader.specs.declared.chunk.Chunk.{Chunk}
use Rattle.index_reader.specs.Outcome as index_outcome
use Rattle.index_reader.specs.Indexes.{Series, Indexed, references, chunk_lists}
use Rattle.index_reader.specs.Reading.Whole.{indexed_of}
use Rattle.chunk_reader.specs.declared.error.ChunkError.{ChunkError}
use Rattle.chunk_reader.specs.declared.error.ChunkError.TheVariants as chunk
use Rattle.chunk_reader.specs.Reading as chunk_reading
use Rattle.tombstones.specs.declared.deletion.Deletion.{Deletion}
use Rattle.tombstones.specs.declared.error.TombstoneError.{TombstoneError}
use Rattle.tombstones.specs.declared.error.TombstoneError.TheVariants as tombstone
use Rattle.tombstones.specs.Outcome as tombstone_outcome
use Rattle.tombstones.specs.Reading.{deletions_of}
use Rattle.block.proofs.AnyOrder.{known_any_order, shown_any_order}
use Rattle.block.proofs.Checks.{known_in, in_known}
use Rattle.block.specs.declared.error.BlockError.{BlockError}
use Rattle.block.specs.declared.error.BlockError.TheVariants.{Memory, Index, UnknownSeries}
use Rattle.block.specs.declared.error.BlockError.TheVariants.{OutsideRange}
use Rattle.block.specs.Outcome.{Fails, of_index, of_chunk, of_tombstone}
use Rattle.block.specs.Samples.{chunk_samples}
use Rattle.block.specs.Blocks.{Shown, shown_of}
use Rattle.block.specs.Sound.{lies_in}
use Rattle.block.specs.Opening.{or_index, or_chunks, or_tombstones, each, chunk_check, series_check}
use Rattle.block.specs.Opening.{have_few, is_few, is_known, is_inside, stored_of, deleted_of}
use Rattle.block.specs.Opening.{block_of}
use Rattle.wire.specs.Outcome.{◌>>=◌}

-- a refusal ends what follows it

pub fails : {A : Type 0} (e : BlockError) (read : Result A BlockError) → read ≡ Err e → Fails e read
fails Memory read h = tt
fails e read h = h

pub fails_next : {A B : Type 0} (e : BlockError) (read : Result A BlockError)
    (f : A → Result B BlockError) → Fails e read → Fails e (read >>= f)
fails_next Memory read f h = tt
fails_next e read f h = rw h refl

pub index_fails : {A B : Type 0} (e : IndexError) (read : Result A IndexError)
    (f : A → Result B BlockError) → index_outcome.Fails e read
    → Fails (of_index e) (or_index read >>= f)
index_fails index.Memory read f h = tt
index_fails e read f h = rw h refl

pub chunks_fail : {A B : Type 0} (e : ChunkError) (read : Result A ChunkError)
    (f : A → Result B BlockError) → read ≡ Err e → Fails (of_chunk e) (or_chunks read >>= f)
chunks_fail chunk.Memory read f h = tt
chunks_fail e read f h = rw h refl

pub tombstones_fail : {A B : Type 0} (e : TombstoneError) (read : Result A TombstoneError)
    (f : A → Result B BlockError) → tombstone_outcome.Fails e read
    → Fails (of_tombstone e) (or_tombstones read >>= f)
tombstones_fail tombstone.Memory read f h = tt
tombstones_fail e read f h = rw h refl

-- checks of series, as checks of their chunks

pub each_lists : (check : List Chunk → Result (Unit {0}) ChunkError) (ss : List Series)
    → each (λ (s : Series). check s.chunks) ss ≡ each check (chunk_lists ss)
unfolding each
each_lists check [] = refl
each_lists check (s ∷ ss) =
    ap (λ r. check s.chunks >>= λ _. r) (each_lists check ss)

pub all_lists : (test : List Chunk → Bool) (ss : List Series)
    → list_all (λ (s : Series). test s.chunks) ss ≡ list_all test (chunk_lists ss)
all_lists test [] = refl
all_lists test (s ∷ ss) = ap (λ b. test s.chunks && b) (all_lists test ss)

pub facts_of_lists : (P : List Chunk → Type 0) (ss : List Series)
    → AllByRecursion P (chunk_lists ss) → AllByRecursion (λ (s : Series). P s.chunks) ss
facts_of_lists P [] a = tt
facts_of_lists P (s ∷ ss) a = (a.0, facts_of_lists P ss a.1)

pub stored_fails : (file : List ℕ) (ss : List Series) (e : ChunkError)
    → each (each (chunk_check file)) (chunk_lists ss) ≡ Err e
    → Fails (of_chunk e) (stored_of file ss)
unfolding stored_of
stored_fails file ss e h =
    chunks_fail e (each (series_check file) ss) _ (each_lists (each (chunk_check file)) ss ∙ h)

pub stored_many : (file : List ℕ) (ss : List Series)
    → each (each (chunk_check file)) (chunk_lists ss) ≡ Ok tt
    → list_all (have_few file) (chunk_lists ss) ≡ false
    → stored_of file ss ≡ Err (Index index.Limit)
unfolding stored_of
stored_many file ss h few =
    let one : each (series_check file) ss ≡ Ok tt = each_lists (each (chunk_check file)) ss ∙ h in
    let two : list_all (is_few file) ss ≡ false = all_lists (have_few file) ss ∙ few in
    rw (one, two) refl

pub stored_few : (file : List ℕ) (ss : List Series)
    → each (each (chunk_check file)) (chunk_lists ss) ≡ Ok tt
    → list_all (have_few file) (chunk_lists ss) ≡ true → stored_of file ss ≡ Ok tt
unfolding stored_of
stored_few file ss h few =
    let one : each (series_check file) ss ≡ Ok tt = each_lists (each (chunk_check file)) ss ∙ h in
    let two : list_all (is_few file) ss ≡ true = all_lists (have_few file) ss ∙ few in
    rw (one, two) refl

-- whether a reference is that of a series

not_true : (b : Bool) → (b ≡ true → ⊥) → b ≡ false
not_true true h = absurd (h refl)
not_true false h = refl

contains_at : (xs : List ℕ) (j b : ℕ) → slice_get xs j ≡ Some b → Contains xs b
contains_at xs j b h = (j, slice_get_within xs j b h, get_or_from_slice_get xs j b b h)

pub known_is : (ss : List Series) (d : Deletion) (r : ℕ) (o : Option ℕ) → r ≡ d.reference
    → IfSome o (λ i. slice_get (references ss) i ≡ Some r)
    → IfNone o (Contains (references ss) r → ⊥) → is_some o ≡ is_known ss d
known_is ss d r (Some i) e found none =
    sym (in_known d ss (subst (Contains (references ss)) e (contains_at (references ss) i r found)))
known_is ss d r None e found none =
    sym (not_true (is_known ss d) (λ h.
    none (subst (Contains (references ss)) (sym e) (known_in d ss h))))

-- deletions of known series

pub deleted_unknown : (file : List ℕ) (ss : List Series) (ds held : List Deletion)
    → deletions_of file ≡ Ok ds → IsPermutation ds held → list_all (is_known ss) held ≡ false
    → deleted_of file ss ≡ Err UnknownSeries
unfolding deleted_of
deleted_unknown file ss ds held h p unknown =
    let e : list_all (is_known ss) ds ≡ false = known_any_order ss ds held p ∙ unknown in
    rw (h, e) refl

pub deleted_known : (file : List ℕ) (ss : List Series) (ds held : List Deletion)
    → deletions_of file ≡ Ok ds → IsPermutation ds held → list_all (is_known ss) held ≡ true
    → deleted_of file ss ≡ Ok ds
unfolding deleted_of
deleted_known file ss ds held h p known =
    let e : list_all (is_known ss) ds ≡ true = known_any_order ss ds held p ∙ known in
    rw (h, e) refl

-- the whole

pub block_fails_index : (range : ℤ × ℤ) (file chunks tombstones : List ℕ) (e : IndexError)
    → index_outcome.Fails e (indexed_of file)
    → Fails (of_index e) (block_of range file chunks tombstones)
unfolding block_of
block_fails_index range file chunks tombstones e h = index_fails e (indexed_of file) _ h

pub block_fails_chunks : (range : ℤ × ℤ) (file chunks tombstones : List ℕ) (x : Indexed)
    (e : ChunkError) → indexed_of file ≡ Ok x → chunk_reading.opened chunks ≡ Err e
    → Fails (of_chunk e) (block_of range file chunks tombstones)
unfolding block_of
block_fails_chunks range file chunks tombstones x e one h =
    rw one (chunks_fail e (chunk_reading.opened chunks) _ h)

pub block_fails_stored : (range : ℤ × ℤ) (file chunks tombstones : List ℕ) (x : Indexed)
    (segment : List ℕ) (e : BlockError) → indexed_of file ≡ Ok x
    → chunk_reading.opened chunks ≡ Ok segment → Fails e (stored_of segment x.series)
    → Fails e (block_of range file chunks tombstones)
unfolding block_of
block_fails_stored range file chunks tombstones x segment e one two h =
    rw (one, two) (fails_next e (stored_of segment x.series) _ h)

pub block_fails_deleted : (range : ℤ × ℤ) (file chunks tombstones : List ℕ) (x : Indexed)
    (segment : List ℕ) (e : BlockError) → indexed_of file ≡ Ok x
    → chunk_reading.opened chunks ≡ Ok segment → stored_of segment x.series ≡ Ok tt
    → Fails e (deleted_of tombstones x.series) → Fails e (block_of range file chunks tombstones)
unfolding block_of
block_fails_deleted range file chunks tombstones x segment e one two three h =
    rw (one, two, three) (fails_next e (deleted_of tombstones x.series) _ h)

pub block_outside : (range : ℤ × ℤ) (file chunks tombstones : List ℕ) (x : Indexed)
    (segment : List ℕ) (ds : List Deletion) → indexed_of file ≡ Ok x
    → chunk_reading.opened chunks ≡ Ok segment → stored_of segment x.series ≡ Ok tt
    → deleted_of tombstones x.series ≡ Ok ds
    → list_all (list_all (lies_in range)) (chunk_lists x.series) ≡ false
    → block_of range file chunks tombstones ≡ Err OutsideRange
unfolding block_of
block_outside range file chunks tombstones x segment ds one two three four inside =
    let five : list_all (is_inside range) x.series ≡ false =
    all_lists (list_all (lies_in range)) x.series ∙ inside in
    rw (one, two, three, four, five) refl

pub block_opens : (range : ℤ × ℤ) (file chunks tombstones : List ℕ) (x : Indexed) (segment : List ℕ)
    (ds held : List Deletion) → indexed_of file ≡ Ok x → chunk_reading.opened chunks ≡ Ok segment
    → stored_of segment x.series ≡ Ok tt
    → deleted_of tombstones x.series ≡ Ok ds → IsPermutation ds held
    → list_all (list_all (lies_in range)) (chunk_lists x.series) ≡ true
    → block_of range file chunks tombstones ≡ Ok (shown_of range (chunk_samples segment) x held)
unfolding block_of
block_opens range file chunks tombstones x segment ds held one two three four p inside =
    let five : list_all (is_inside range) x.series ≡ true =
    all_lists (list_all (lies_in range)) x.series ∙ inside in
    let six : shown_of range (chunk_samples segment) x ds ≡ shown_of range (chunk_samples segment) x held =
    shown_any_order range (chunk_samples segment) x ds held p in
    rw (one, two, three, four, five) (ap (λ (shown : Shown). Ok shown) six)
