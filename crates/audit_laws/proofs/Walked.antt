-- What spells a block of a part spells the part without the postings.
use Rattle.std.proofs.Common.{ℕ, List, [], ◌∷◌, map, sym, subst}
use Rattle.std.specs.Prelude.{ℤ}
use Rattle.std.specs.List.{AllByRecursion, Contains}
use Rattle.labels.specs.Parts.{Part}
use Rattle.index_reader.specs.declared.chunk.Chunk as kept_chunk
use Rattle.index_reader.specs.Indexes as indexes
use Rattle.tombstones.specs.declared.deletion.Deletion.{Deletion}
use Rattle.block.specs.Grammar as block
use Rattle.block_walk.specs.BlockFiles.Spelled.{AreSpelled, AreRowsOfSeries, IsWalked}
use Rattle.audit_laws.proofs.Indexed.{chunk_told, series_told, references_again, index_again}

spelled_again : (file : List ℕ) (cs : List kept_chunk.Chunk) (samples : List (ℤ × ℤ))
    → block.AreSpelled file cs samples → AreSpelled file (map chunk_told cs) samples
spelled_again file [] samples are = are
spelled_again file (c ∷ cs) samples are =
    (are.0, are.1, are.2, are.3, spelled_again file cs are.1 are.4)

rows_again : (range : ℤ × ℤ) (file : List ℕ) (deletions : List Deletion) (ss : List indexes.Series)
    (part : Part) → block.AreRowsOfSeries range file deletions ss part
    → AreRowsOfSeries file deletions (map series_told ss) part
rows_again range file deletions [] [] are = tt
rows_again range file deletions [] (row ∷ rows) are = absurd are
rows_again range file deletions (s ∷ ss) [] are = absurd are
rows_again range file deletions (s ∷ ss) (row ∷ rows) are =
    let r = are.0 in (
      record {
        reference = r.reference;
        labels = r.labels;
        samples = r.samples;
        spelled = spelled_again file s.chunks r.samples r.spelled;
        few = r.few;
        kept = r.kept;
      },
      rows_again range file deletions ss rows are.1,
    )

pub block_walked : (range : ℤ × ℤ) (index chunks tombstones : List ℕ) (part : Part)
    → block.IsBlock range index chunks tombstones part → IsWalked index chunks tombstones part
block_walked range index chunks tombstones part b = record {
  series = map series_told b.x.series;
  indexed = index_again index b.x b.indexed;
  segment = b.segment;
  deletions = b.deletions;
  deleted = b.deleted;
  known =
      subst (λ (rs : List ℕ). AllByRecursion (λ (d : Deletion). Contains rs d.reference)
      b.deletions) (sym (references_again b.x.series)) b.known;
  rows = rows_again range chunks b.deletions b.x.series part b.rows;
}
