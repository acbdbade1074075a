-- What is read of a block's files is what they spell.
use Rattle.std.proofs.Common.{◌≡◌, ℕ, ◌≤◌, true, ltb, eqb, List, [], ◌∷◌, length, Ok, refl, sym, subst, ◌∙◌}
use Rattle.std.specs.List.{AllByRecursion, Contains, list_all}
use Rattle.std.specs.List.Sorted.{IsPermutation}
use Rattle.std.proofs.lemmas.Bool.{leb-true}
use Rattle.wire.specs.Spelling.{IsBytes}
use Rattle.wire.specs.Reading.{number_at}
use Rattle.chunk_reader.specs.Grammar.{IsSegment}
use Rattle.chunk_reader.specs.declared.error.ChunkError.TheVariants.{Magic, Version, Shape}
use Rattle.chunk_reader.specs.Reading.{opened}
use Rattle.wire.specs.Outcome.{or_refused}
use Rattle.wire.proofs.Steps.{bind_ok, not_failed, passed, same_value}
use Rattle.tombstones.specs.declared.deletion.Deletion.{Deletion}
use Rattle.tombstones.specs.Grammar.{IsTombstones}
use Rattle.tombstones.specs.Reading.{deletions_of}
use Rattle.tombstones.proofs.Whole.{tombstones_take}
use Rattle.block_walk.specs.declared.chunk.Chunk.{Chunk}
use Rattle.block_walk.specs.declared.error.WalkError.TheVariants.{UnknownSeries}
use Rattle.block_walk.specs.IndexFile.Series.{Series, references, chunk_lists}
use Rattle.block_walk.specs.IndexFile.Spelled.{IsIndex}
use Rattle.block_walk.specs.BlockFiles.Samples.{chunk_samples, samples_in, part_of}
use Rattle.block_walk.specs.BlockFiles.Sound.{IsHeld}
use Rattle.block_walk.specs.BlockFiles.Reading.{or_tombstones, have_few, is_few, is_known, deleted_of}
use Rattle.block_walk.specs.BlockFiles.Spelled.{AreSpelled, AreRowsOfSeries, IsWalked}
use Rattle.block_walk.proofs.BlockFiles.Checks.{all_pass, weaken, known_in}
use Rattle.block_walk.proofs.BlockFiles.AnyOrder.{part_any_order}
use Rattle.block_walk.proofs.BlockFiles.Refusals.{all_lists, facts_of_lists}
use Rattle.block_walk.proofs.BlockFiles.Stages.{test_ok, tombstones_ok}

-- chunks

pub are_spelled : (file : List ℕ) (cs : List Chunk) → AllByRecursion (IsHeld file) cs
    → AreSpelled file cs (samples_in file cs)
are_spelled file [] held = refl
are_spelled file (c ∷ cs) held =
    (chunk_samples file c, samples_in file cs, refl, held.0.stands, are_spelled file cs held.1)

-- the chunks of all series are held, and each has few samples
pub record AreHeld (file : List ℕ) (ss : List Series) : Type 0 where
  pub held : AllByRecursion (λ (s : Series). AllByRecursion (IsHeld file) s.chunks) ss
  pub few : AllByRecursion (λ (s : Series). length (samples_in file s.chunks) ≤ 1048576) ss

-- deletions

pub record AreKnown (tombstones : List ℕ) (ss : List Series)
    (deletions : List Deletion) : Type 0 where
  pub deleted : IsTombstones tombstones deletions
  pub known : AllByRecursion (λ (d : Deletion). Contains (references ss) d.reference) deletions

pub known_each : (ss : List Series) (deletions : List Deletion)
    → list_all (is_known ss) deletions ≡ true
    → AllByRecursion (λ (d : Deletion). Contains (references ss) d.reference) deletions
known_each ss deletions h =
    weaken (λ d. is_known ss d ≡ true) (λ d. Contains (references ss) d.reference)
    (λ d e. known_in d ss e) deletions (all_pass (is_known ss) deletions h)

pub deleted_known : (tombstones : List ℕ) (ss : List Series) (deletions : List Deletion)
    → IsBytes tombstones → deleted_of tombstones ss ≡ Ok deletions
    → AreKnown tombstones ss deletions
unfolding deleted_of
deleted_known tombstones ss deletions fits h =
    let a = bind_ok (or_tombstones (deletions_of tombstones)) _ deletions h in
    let b = test_ok (list_all (is_known ss) a.0) UnknownSeries a.0 deletions a.2 in
    subst (AreKnown tombstones ss) b.1 (record {
      deleted =
          tombstones_take tombstones a.0 fits (tombstones_ok (deletions_of tombstones) a.0 a.1);
      known = known_each ss a.0 b.0;
    })

-- the rows

pub are_rows : (file : List ℕ) (deletions : List Deletion) (ss : List Series)
    → AllByRecursion (λ (s : Series). AllByRecursion (IsHeld file) s.chunks) ss
    → AllByRecursion (λ (s : Series). length (samples_in file s.chunks) ≤ 1048576) ss
    → AreRowsOfSeries file deletions ss (part_of file deletions ss)
are_rows file deletions [] held few = tt
are_rows file deletions (s ∷ ss) held few = (
  record {
    reference = refl;
    labels = refl;
    samples = samples_in file s.chunks;
    spelled = are_spelled file s.chunks held.0;
    few = few.0;
    kept = refl;
  },
  are_rows file deletions ss held.1 few.1,
)

-- the head of the chunks file

pub opened_same : (file x : List ℕ) → opened file ≡ Ok x → x ≡ file
unfolding opened
opened_same file x h =
    let a = not_failed (ltb 0x4000_0000 (length file)) Shape _ x h in
    let m = bind_ok (or_refused Magic (number_at 4 file)) _ x a.1 in
    let mt = passed (eqb m.0.0 0x85BD_40DD) Magic _ x m.2 in
    let v = bind_ok (or_refused Version (number_at 4 m.0.1)) _ x mt.1 in
    let vt = passed (eqb v.0.0 0x0100_0000) Version _ x v.2 in
    sym (same_value file x vt.1)

-- the whole, of what the checks leave

pub walk_spelled : (index chunks tombstones : List ℕ) (ss : List Series) (file : List ℕ)
    (deletions sorted : List Deletion) → IsBytes tombstones → IsIndex index ss
    → opened chunks ≡ Ok file → IsSegment file
    → AllByRecursion (AllByRecursion (IsHeld file)) (chunk_lists ss)
    → list_all (have_few file) (chunk_lists ss) ≡ true → deleted_of tombstones ss ≡ Ok deletions
    → IsPermutation deletions sorted
    → IsWalked index chunks tombstones (part_of file sorted ss)
walk_spelled index chunks tombstones ss file deletions sorted tombstones_fit indexed read segment
    held few deleted order =
    let known = deleted_known tombstones ss deletions tombstones_fit deleted in
    let few_each : AllByRecursion (λ (s : Series). is_few file s ≡ true) ss =
    all_pass (is_few file) ss (all_lists (have_few file) ss ∙ few) in
    let whole : IsWalked index file tombstones (part_of file deletions ss) = record {
      series = ss;
      indexed = indexed;
      segment = segment;
      deletions = deletions;
      deleted = known.deleted;
      known = known.known;
      rows = are_rows file deletions ss (facts_of_lists (AllByRecursion (IsHeld file)) ss held)
          (weaken (λ s. is_few file s ≡ true) (λ s. length (samples_in file s.chunks) ≤ 1048576)
          (λ s e. leb-true (length (samples_in file s.chunks)) 1048576 e) ss few_each);
    } in
    subst (λ (c : List ℕ). IsWalked index c tombstones (part_of file sorted ss))
    (opened_same chunks file read)
    (subst (IsWalked index file tombstones) (part_any_order file deletions sorted order ss) whole)
