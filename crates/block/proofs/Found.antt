-- What is read of a block's files is what they spell.
use Rattle.std.proofs.Common.{◌≡◌, ℕ, ◌≤◌, true, ltb, eqb, List, [], ◌∷◌, length, Ok, refl, sym}
use Rattle.std.proofs.Common.{subst, ◌∙◌}
use Rattle.std.specs.Prelude.{ℤ}
use Rattle.std.specs.List.{AllByRecursion, Contains, list_all}
use Rattle.std.specs.List.Sorted.{IsPermutation}
use Rattle.std.proofs.lemmas.Bool.{leb-true}
use Rattle.wire.specs.Spelling.{IsBytes}
use Rattle.wire.specs.Reading.{number_at}
use Rattle.index_reader.specs.declared.chunk.Chunk.{Chunk}
use Rattle.index_reader.specs.Indexes.{Series, Indexed, references, chunk_lists}
use Rattle.index_reader.specs.Spelled.{IsIndex}
use Rattle.chunk_reader.specs.Grammar.{IsSegment}
use Rattle.chunk_reader.specs.declared.error.ChunkError.TheVariants.{Magic, Version, Shape}
use Rattle.chunk_reader.specs.Reading.{opened}
use Rattle.wire.specs.Outcome.{or_refused}
use Rattle.wire.proofs.Steps.{bind_ok, not_failed, passed, same_value}
use Rattle.tombstones.specs.declared.deletion.Deletion.{Deletion}
use Rattle.tombstones.specs.Grammar.{IsTombstones}
use Rattle.tombstones.specs.Reading.{deletions_of}
use Rattle.tombstones.proofs.Whole.{tombstones_take}
use Rattle.block.specs.declared.error.BlockError.TheVariants.{UnknownSeries}
use Rattle.block.specs.Samples.{chunk_samples, samples_in}
use Rattle.block.specs.Blocks.{part_of_series}
use Rattle.block.specs.Sound.{lies_in, IsReadChunk}
use Rattle.block.specs.Opening.{or_tombstones, have_few, is_few, is_known, is_inside, deleted_of}
use Rattle.block.specs.Grammar.{AreSpelled, AreRowsOfSeries, IsBlock}
use Rattle.block.proofs.Checks.{all_pass, weaken, known_in}
use Rattle.block.proofs.AnyOrder.{part_any_order}
use Rattle.block.proofs.Refusals.{all_lists, facts_of_lists}
use Rattle.block.proofs.Stages.{test_ok, tombstones_ok}

-- chunks

pub are_spelled : (file : List ℕ) (cs : List Chunk) → AllByRecursion (IsReadChunk file) cs
    → AreSpelled file cs (samples_in (chunk_samples file) cs)
are_spelled file [] held = refl
are_spelled file (c ∷ cs) held =
    (chunk_samples file c, samples_in (chunk_samples file) cs, refl, held.0.stands, are_spelled file cs held.1)

-- the chunks of all series are held, and each has few samples
pub record AreHeld (file : List ℕ) (ss : List Series) : Type 0 where
  pub held : AllByRecursion (λ (s : Series). AllByRecursion (IsReadChunk file) s.chunks) ss
  pub few : AllByRecursion (λ (s : Series). length (samples_in (chunk_samples file) s.chunks) ≤ 1048576) ss

-- deletions

pub record AreKnown (tombstones : List ℕ) (ss : List Series)
    (deletions : List Deletion) : Type 0 where
  pub deleted : IsTombstones tombstones deletions
  pub known : AllByRecursion (λ (d : Deletion). Contains (references ss) d.reference) deletions

pub known_each : (ss : List Series) (deletions : List Deletion)
    → list_all (is_known ss) deletions ≡ true
    → AllByRecursion (λ (d : Deletion). Contains (references ss) d.reference) deletions
known_each ss deletions h =
    weaken (λ d. is_known ss d ≡ true) (λ d. Contains (references ss) d.reference)
    (λ d e. known_in d ss e) deletions (all_pass (is_known ss) deletions h)

pub deleted_known : (tombstones : List ℕ) (ss : List Series) (deletions : List Deletion)
    → IsBytes tombstones → deleted_of tombstones ss ≡ Ok deletions
    → AreKnown tombstones ss deletions
unfolding deleted_of
deleted_known tombstones ss deletions fits h =
    let a = bind_ok (or_tombstones (deletions_of tombstones)) _ deletions h in
    let b = test_ok (list_all (is_known ss) a.0) UnknownSeries a.0 deletions a.2 in
    subst (AreKnown tombstones ss) b.1 (record {
      deleted =
          tombstones_take tombstones a.0 fits (tombstones_ok (deletions_of tombstones) a.0 a.1);
      known = known_each ss a.0 b.0;
    })

-- the range

pub inside_each : (range : ℤ × ℤ) (ss : List Series) → list_all (is_inside range) ss ≡ true
    → AllByRecursion
    (λ (s : Series). AllByRecursion (λ (c : Chunk). lies_in range c ≡ true) s.chunks) ss
inside_each range ss h =
    weaken (λ s. is_inside range s ≡ true)
    (λ s. AllByRecursion (λ (c : Chunk). lies_in range c ≡ true) s.chunks)
    (λ s e. all_pass (lies_in range) s.chunks e) ss (all_pass (is_inside range) ss h)

-- the rows

pub are_rows : (range : ℤ × ℤ) (file : List ℕ) (deletions : List Deletion) (ss : List Series)
    → AllByRecursion (λ (s : Series). AllByRecursion (IsReadChunk file) s.chunks) ss
    → AllByRecursion (λ (s : Series). length (samples_in (chunk_samples file) s.chunks) ≤ 1048576) ss
    → AllByRecursion
    (λ (s : Series). AllByRecursion (λ (c : Chunk). lies_in range c ≡ true) s.chunks) ss
    → AreRowsOfSeries range file deletions ss (part_of_series (chunk_samples file) deletions ss)
are_rows range file deletions [] held few inside = tt
are_rows range file deletions (s ∷ ss) held few inside = (
  record {
    reference = refl;
    labels = refl;
    samples = samples_in (chunk_samples file) s.chunks;
    spelled = are_spelled file s.chunks held.0;
    few = few.0;
    inside = inside.0;
    kept = refl;
  },
  are_rows range file deletions ss held.1 few.1 inside.1,
)

-- the head of the chunks file

opened_same : (file x : List ℕ) → opened file ≡ Ok x → x ≡ file
unfolding opened
opened_same file x h =
    let a = not_failed (ltb 0x4000_0000 (length file)) Shape _ x h in
    let m = bind_ok (or_refused Magic (number_at 4 file)) _ x a.1 in
    let mt = passed (eqb m.0.0 0x85BD_40DD) Magic _ x m.2 in
    let v = bind_ok (or_refused Version (number_at 4 m.0.1)) _ x mt.1 in
    let vt = passed (eqb v.0.0 0x0100_0000) Version _ x v.2 in
    sym (same_value file x vt.1)

-- the whole, of what the checks leave

pub block_spelled : (range : ℤ × ℤ) (index chunks tombstones : List ℕ) (x : Indexed) (file : List ℕ)
    (deletions sorted : List Deletion) → IsBytes tombstones → IsIndex index x
    → opened chunks ≡ Ok file → IsSegment file
    → AllByRecursion (AllByRecursion (IsReadChunk file)) (chunk_lists x.series)
    → list_all (have_few file) (chunk_lists x.series) ≡ true
    → deleted_of tombstones x.series ≡ Ok deletions → IsPermutation deletions sorted
    → list_all (list_all (lies_in range)) (chunk_lists x.series) ≡ true
    → IsBlock range index chunks tombstones (part_of_series (chunk_samples file) sorted x.series)
block_spelled range index chunks tombstones x file deletions sorted tombstones_fit indexed read
    segment held few deleted order inside =
    let known = deleted_known tombstones x.series deletions tombstones_fit deleted in
    let few_each : AllByRecursion (λ (s : Series). is_few file s ≡ true) x.series =
    all_pass (is_few file) x.series (all_lists (have_few file) x.series ∙ few) in
    let whole : IsBlock range index file tombstones (part_of_series (chunk_samples file) deletions x.series) = record {
      x = x;
      indexed = indexed;
      segment = segment;
      deletions = deletions;
      deleted = known.deleted;
      known = known.known;
      rows =
          are_rows range file deletions x.series
          (facts_of_lists (AllByRecursion (IsReadChunk file)) x.series held)
          (weaken (λ s. is_few file s ≡ true) (λ s. length (samples_in (chunk_samples file) s.chunks) ≤ 1048576)
          (λ s e. leb-true (length (samples_in (chunk_samples file) s.chunks)) 1048576 e) x.series few_each)
          (inside_each range x.series (all_lists (list_all (lies_in range)) x.series ∙ inside));
    } in
    subst (λ (c : List ℕ). IsBlock range index c tombstones (part_of_series (chunk_samples file) sorted x.series))
    (opened_same chunks file read)
    (subst (IsBlock range index file tombstones)
    (part_any_order (chunk_samples file) deletions sorted order x.series) whole)
