-- What the files of a block spell is read.
use Rattle.std.proofs.Common.{◌≡◌, ℕ, ◌≤◌, true, List, [], ◌∷◌, ◌++◌, length, Ok, refl, sym, ap}
use Rattle.std.proofs.Common.{subst, ◌∙◌}
use Rattle.std.specs.Prelude.{ℤ}
use Rattle.std.specs.List.{AllByRecursion, Contains, list_all}
use Rattle.std.proofs.lemmas.Bool.{le-leb}
use Rattle.wire.specs.Spelling.{IsBytes}
use Rattle.labels.specs.Parts.{Part}
use Rattle.labels.specs.Rows.{Row}
use Rattle.index_reader.specs.declared.chunk.Chunk.{Chunk}
use Rattle.index_reader.specs.Indexes.{Series, references}
use Rattle.index_reader.specs.Reading.Whole.{indexed_of}
use Rattle.index_reader.proofs.Again.{index_again}
use Rattle.chunk_reader.specs.Grammar.{IsChunk}
use Rattle.chunk_reader.specs.Reading.{opened}
use Rattle.wire.proofs.Steps.{value}
use Rattle.chunk_reader.proofs.Whole.{segment_again, chunk_again}
use Rattle.tombstones.specs.declared.deletion.Deletion.{Deletion}
use Rattle.tombstones.specs.Reading.{deletions_of}
use Rattle.tombstones.proofs.Whole.{tombstones_again}
use Rattle.block.specs.Samples.{or_none, chunk_read, chunk_samples, samples_in, undeleted}
use Rattle.block.specs.Blocks.{Shown, series_row, part_of_series, shown_of}
use Rattle.block.specs.Sound.{lies_in, IsReadChunk}
use Rattle.block.specs.Opening.{each, chunk_check, series_check, is_few, is_known, is_inside}
use Rattle.block.specs.Opening.{stored_of, deleted_of, block_of}
use Rattle.block.specs.Grammar.{AreSpelled, AreRowsOfSeries, IsBlock}
use Rattle.block.proofs.Checks.{pass_all, pass_each, weaken, in_known}
use Rattle.block.proofs.Found.{AreHeld, AreKnown}

-- chunks

pub spelled_held : (file : List ℕ) (c : Chunk) (samples : List (ℤ × ℤ))
    → IsChunk file c.reference c.mint c.maxt samples
    → (samples ≡ chunk_samples file c) × IsReadChunk file c
spelled_held file c samples x =
    let read : chunk_read file c ≡ value samples =
    chunk_again file c.reference c.mint c.maxt samples x in
    let same : samples ≡ chunk_samples file c = sym (ap or_none read) in (
      same,
      record {
        reads = read ∙ ap value same;
        stands = subst (IsChunk file c.reference c.mint c.maxt) same x;
      },
    )

pub spelled_in : (file : List ℕ) (cs : List Chunk) (samples : List (ℤ × ℤ))
    → AreSpelled file cs samples → (samples ≡ samples_in (chunk_samples file) cs) × AllByRecursion (IsReadChunk file) cs
spelled_in file [] samples a = (a, tt)
spelled_in file (c ∷ cs) samples a =
    let one = spelled_held file c a.0 a.3 in
    let others = spelled_in file cs a.1 a.4 in (
      a.2
          ∙ (ap (λ (first : List (ℤ × ℤ)). first ++ a.1) one.0
          ∙ ap (λ (rest : List (ℤ × ℤ)). chunk_samples file c ++ rest) others.0),
      (one.1, others.1),
    )

pub held_checked : (file : List ℕ) (c : Chunk) → IsReadChunk file c → chunk_check file c ≡ Ok tt
held_checked file c h = rw (h.reads) refl

pub held_passes : (file : List ℕ) (s : Series) → AllByRecursion (IsReadChunk file) s.chunks
    → series_check file s ≡ Ok tt
held_passes file s h =
    pass_each (chunk_check file) s.chunks (weaken (IsReadChunk file) (λ c. chunk_check file c ≡ Ok tt)
    (λ c e. held_checked file c e) s.chunks h)

pub held_stored : (file : List ℕ) (ss : List Series) → AreHeld file ss → stored_of file ss ≡ Ok tt
unfolding stored_of
held_stored file ss h =
    let read : each (series_check file) ss ≡ Ok tt =
    pass_each (series_check file) ss (weaken (λ s. AllByRecursion (IsReadChunk file) s.chunks)
    (λ s. series_check file s ≡ Ok tt) (λ s e. held_passes file s e) ss h.held) in
    let few : list_all (is_few file) ss ≡ true =
    pass_all (is_few file) ss
    (weaken (λ s. length (samples_in (chunk_samples file) s.chunks) ≤ 1048576) (λ s. is_few file s ≡ true)
    (λ s e. le-leb (length (samples_in (chunk_samples file) s.chunks)) 1048576 e) ss h.few) in
    rw (read, few) refl

-- deletions

pub known_passes : (ss : List Series) (deletions : List Deletion)
    → AllByRecursion (λ (d : Deletion). Contains (references ss) d.reference) deletions
    → list_all (is_known ss) deletions ≡ true
known_passes ss deletions k =
    pass_all (is_known ss) deletions (weaken (λ d. Contains (references ss) d.reference)
    (λ d. is_known ss d ≡ true) (λ d c. in_known d ss c) deletions k)

pub known_deleted : (tombstones : List ℕ) (ss : List Series) (deletions : List Deletion)
    → IsBytes tombstones → AreKnown tombstones ss deletions
    → deleted_of tombstones ss ≡ Ok deletions
unfolding deleted_of
known_deleted tombstones ss deletions fits k =
    let read : deletions_of tombstones ≡ Ok deletions =
    tombstones_again tombstones deletions fits k.deleted in
    rw (read, known_passes ss deletions k.known) refl

-- the range

pub inside_passes : (range : ℤ × ℤ) (ss : List Series) → AllByRecursion
    (λ (s : Series). AllByRecursion (λ (c : Chunk). lies_in range c ≡ true) s.chunks) ss
    → list_all (is_inside range) ss ≡ true
inside_passes range ss h =
    pass_all (is_inside range) ss
    (weaken (λ s. AllByRecursion (λ (c : Chunk). lies_in range c ≡ true) s.chunks)
    (λ s. is_inside range s ≡ true) (λ s e. pass_all (lies_in range) s.chunks e) ss h)

-- the rows

-- what rows say of the series, and the part that they are
pub record AreRead (range : ℤ × ℤ) (file : List ℕ) (deletions : List Deletion) (ss : List Series)
    (part : Part) : Type 0 where
  pub stored : AreHeld file ss
  pub inside : AllByRecursion
      (λ (s : Series). AllByRecursion (λ (c : Chunk). lies_in range c ≡ true) s.chunks) ss
  pub same : part ≡ part_of_series (chunk_samples file) deletions ss

row_same : (file : List ℕ) (deletions : List Deletion) (s : Series) (row : ℕ × Row)
    (samples : List (ℤ × ℤ)) → row.0 ≡ s.reference → row.1.0 ≡ s.labels
    → row.1.1 ≡ undeleted deletions s.reference samples → samples ≡ samples_in (chunk_samples file) s.chunks
    → row ≡ series_row (chunk_samples file) deletions s
row_same file deletions s row samples reference labels kept same =
    ap (λ (r : ℕ). (r, (row.1.0, row.1.1))) reference
    ∙ ap (λ (l : List (List ℕ × List ℕ)). (s.reference, (l, row.1.1))) labels
    ∙ ap (λ (k : List (ℤ × ℤ)). (s.reference, (s.labels, k))) (kept
    ∙ ap (undeleted deletions s.reference) same)

pub rows_read : (range : ℤ × ℤ) (file : List ℕ) (deletions : List Deletion) (ss : List Series)
    (part : Part) → AreRowsOfSeries range file deletions ss part → AreRead range file deletions ss part
rows_read range file deletions [] [] a =
    record { stored = record { held = tt; few = tt }; inside = tt; same = refl }
rows_read range file deletions [] (row ∷ rows) a = absurd a
rows_read range file deletions (s ∷ ss) [] a = absurd a
rows_read range file deletions (s ∷ ss) (row ∷ rows) a =
    let r = a.0 in
    let samples = spelled_in file s.chunks r.samples r.spelled in
    let others = rows_read range file deletions ss rows a.1 in
    let same : row ≡ series_row (chunk_samples file) deletions s =
    row_same file deletions s row r.samples r.reference r.labels r.kept samples.0 in
    record {
      stored = record {
        held = (samples.1, others.stored.held);
        few = (subst (λ (x : List (ℤ × ℤ)). length x ≤ 1048576) samples.0 r.few, others.stored.few);
      };
      inside = (r.inside, others.inside);
      same =
          ap (λ (first : ℕ × Row). first ∷ rows) same
          ∙ ap (λ (rest : Part). series_row (chunk_samples file) deletions s ∷ rest) others.same;
    }

-- the whole

pub block_again : (range : ℤ × ℤ) (index chunks tombstones : List ℕ) (part : Part) → IsBytes index
    → IsBytes tombstones → IsBlock range index chunks tombstones part
    → (shown : Shown) × (block_of range index chunks tombstones ≡ Ok shown) × (shown.part ≡ part)
unfolding block_of
block_again range index chunks tombstones part index_fits tombstones_fit b =
    let x = b.x in
    let rows = rows_read range chunks b.deletions x.series part b.rows in
    let read : indexed_of index ≡ Ok x = index_again index x index_fits b.indexed in
    let head : opened chunks ≡ Ok chunks = segment_again chunks b.segment in
    let stored : stored_of chunks x.series ≡ Ok tt = held_stored chunks x.series rows.stored in
    let deleted : deleted_of tombstones x.series ≡ Ok b.deletions =
    known_deleted tombstones x.series b.deletions tombstones_fit
    (record { deleted = b.deleted; known = b.known }) in (
      shown_of range (chunk_samples chunks) x b.deletions,
      rw (read, head, stored, deleted, inside_passes range x.series rows.inside) refl,
      sym rows.same,
    )
