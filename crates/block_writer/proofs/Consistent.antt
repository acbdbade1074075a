-- What a written index holds is consistent.
use Rattle.std.proofs.Common.{◌≡◌, ℕ, ◌+◌, ◌<◌, ◌≤◌, ◌^◌, List, [], ◌∷◌, length, get_or, refl, sym}
use Rattle.std.proofs.Common.{subst, arith}
use Rattle.std.specs.Prelude.{T}
use Rattle.std.specs.List.{AllByRecursion}
use Rattle.std.specs.List.Sorted.{IsStrictlyIncreasing}
use Rattle.std.specs.FinMap.Entries.{is_sorted}
use Rattle.std.specs.declared.cmp.Ordering.TheVariants.{Less}
use Rattle.labels.specs.Labels.{labels_cmp, pair_cmp}
use Rattle.labels.specs.LabelSets.{IsLabelSet}
use Rattle.labels.specs.Rows.{Row}
use Rattle.index_reader.specs.Indexes.{references, IsConsistent}
use Rattle.block_writer.specs.EntryBodies.{bodies_of}
use Rattle.block_writer.specs.IndexText.{start_text}
use Rattle.block_writer.specs.InUse.{pairs_in, HoldsEachOnce}
use Rattle.block_writer.specs.Writing.{series_text}
use Rattle.block_writer.proofs.WrittenAs.{series_from, references_in, front_text, indexed_from}
use Rattle.block_writer.proofs.Building.{references_many}
use Rattle.block_writer.proofs.Carried.{pairs_carried, pairs_listed}
use Rattle.block_writer.proofs.InOrder.{each_below_next, sets_rise}
use Rattle.block_writer.proofs.RowSeries.{references_are, sets_are, references_rise}
use Rattle.block_writer.proofs.RowSeries.{references_small}

pub many_references : (symbols : List (List ℕ)) (rows : List Row)
    → length (references_in symbols rows) ≡ length rows
many_references symbols rows = references_many symbols rows 8 (length (start_text symbols))

pub many_series : (rows : List Row) (refs : List ℕ) (at : ℕ) → length refs ≡ length rows
    → length (series_from at refs rows) ≡ length rows
unfolding series_from
many_series [] refs at long = refl
many_series (row ∷ rows) [] at long = absurd (omega (arith, long))
many_series (row ∷ rows) (r ∷ refs) at long =
    let others = many_series rows refs (at + length (series_text row.1)) (omega (arith, long)) in
    omega (arith, others)

-- the references of the series of a written index
pub references_as : (symbols : List (List ℕ)) (pairs : List (List ℕ × List ℕ)) (rows : List Row)
    → references (indexed_from symbols pairs rows).series ≡ references_in symbols rows
references_as symbols pairs rows =
    references_are rows (references_in symbols rows) 8 (many_references symbols rows)

small_references : (symbols : List (List ℕ)) (rows : List Row) (k : ℕ)
    → length (front_text symbols rows) ≤ 0x4000_0000 → k < length rows
    → get_or (references_in symbols rows) k 0 < 2 ^ 32
small_references symbols rows k short lt =
    let below : get_or (references_in symbols rows) k 0 ≤ length (front_text symbols rows) =
    references_small (bodies_of symbols 8 rows) (start_text symbols) k
    (omega (arith, lt, many_references symbols rows)) in
    omega (arith, below, short)

pub written_consistent : (symbols : List (List ℕ)) (pairs : List (List ℕ × List ℕ))
    (rows : List Row) → T (is_sorted labels_cmp rows)
    → AllByRecursion (λ (row : Row). IsLabelSet row.0) rows → length rows ≤ 1048576
    → length (front_text symbols rows) ≤ 0x4000_0000
    → HoldsEachOnce pair_cmp (pairs_in rows) pairs → IsConsistent (indexed_from symbols pairs rows)
written_consistent symbols pairs rows up sets few short held =
    let refs : List ℕ = references_in symbols rows in
    let many : length refs ≡ length rows = many_references symbols rows in
    let count : length (series_from 8 refs rows) ≡ length rows = many_series rows refs 8 many in
    let same : references (series_from 8 refs rows) ≡ refs = references_are rows refs 8 many in
    record {
      ascending =
          subst IsStrictlyIncreasing (sym same)
          (references_rise (bodies_of symbols 8 rows) (length (start_text symbols)));
      small =
          λ k lt. subst (λ xs. get_or xs k 0 < 2 ^ 32) (sym same)
          (small_references symbols rows k short (omega (arith, lt, count)));
      few = omega (arith, count, few);
      in_order =
          λ k lt. subst (λ xs. labels_cmp (get_or xs k []) (get_or xs (k + 1) []) ≡ Less)
          (sym (sets_are rows refs 8 many)) (sets_rise rows k up (omega (arith, lt, count)));
      pairs_in_order = λ k lt. each_below_next pair_cmp pairs ([], []) k held.ascending lt;
      carried = pairs_carried pairs rows refs 8 many sets held;
      listed = pairs_listed pairs rows refs 8 held;
    }
