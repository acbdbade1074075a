-- Written files are those of a block with exactly the rows.
use Rattle.std.proofs.Common.{◌≡◌, ℕ, ◌+◌, ◌≤◌, List, [], ◌∷◌, length, refl, ap, arith}
use Rattle.std.specs.Prelude.{ℤ}
use Rattle.std.specs.List.{AllByRecursion}
use Rattle.std.specs.Bool.{IsTrue}
use Rattle.std.specs.Str.{IsUtf8}
use Rattle.labels.specs.LabelSets.{IsLabelSet}
use Rattle.labels.specs.Rows.{Row}
use Rattle.index_reader.specs.Spelled.{IsIndex}
use Rattle.tombstones.specs.Grammar.{IsTombstones}
use Rattle.block_writer.specs.InUse.{texts_in}
use Rattle.block_writer.specs.PartRows.{are_part_rows}
use Rattle.block_writer.specs.SpellRows.{SpellRows}
use Rattle.block_writer.proofs.Storable.{AreSeriesOf, IsStorable}
use Rattle.block_writer.specs.Writing.{series_text, chunks_text}
use Rattle.block_writer.specs.Written.{IsWrittenIndex}
use Rattle.block_writer.proofs.WrittenAs.{series_from, references_in, indexed_from}
use Rattle.block_writer.proofs.Consistent.{many_references}
use Rattle.block_writer.proofs.IndexLaw.{written_is_index}
use Rattle.block_writer.proofs.RowLaws.{files_spell}

-- the series of rows are series for these rows
pub series_for : (at : ℕ) (refs : List ℕ) (rows : List Row) → length refs ≡ length rows
    → AreSeriesOf at (series_from at refs rows) rows
unfolding series_from
series_for at refs [] long = tt
series_for at [] (row ∷ rows) long = absurd (omega (arith, long))
series_for at (r ∷ refs) (row ∷ rows) long =
    (refl, refl, series_for (at + length (series_text row.1)) refs rows (omega (arith, long)))

-- all files, where the index is one
pub files_of_index : (range : ℤ × ℤ) (rows : List Row) (index chunks tombstones : List ℕ)
    (w : IsWrittenIndex rows index) → IsTrue (are_part_rows rows)
    → AllByRecursion (IsStorable range) rows
    → IsIndex index (indexed_from w.symbols w.pairs rows) → chunks ≡ chunks_text rows
    → length chunks ≤ 0x4000_0000 → IsTombstones tombstones []
    → SpellRows range index chunks tombstones rows
files_of_index range rows index chunks tombstones w part storable indexed text short none =
    files_spell range index chunks tombstones (indexed_from w.symbols w.pairs rows) rows part
    storable indexed (series_for 8 (references_in w.symbols rows) rows
    (many_references w.symbols rows)) text short none

-- all files
pub written_files_spell : (range : ℤ × ℤ) (rows : List Row) (index chunks tombstones : List ℕ)
    → IsTrue (are_part_rows rows) → AllByRecursion (λ (row : Row). IsLabelSet row.0) rows
    → AllByRecursion IsUtf8 (texts_in rows) → AllByRecursion (IsStorable range) rows
    → length rows ≤ 1048576 → IsWrittenIndex rows index → chunks ≡ chunks_text rows
    → IsTombstones tombstones [] → length index ≤ 0x4000_0000 → length chunks ≤ 0x4000_0000
    → SpellRows range index chunks tombstones rows
written_files_spell range rows index chunks tombstones part sets texts storable few w text none
    short chunks_short =
    let indexed : IsIndex index (indexed_from w.symbols w.pairs rows) =
    written_is_index range rows index w part sets texts storable few
    (omega (arith, ap length text, chunks_short)) short in
    files_of_index range rows index chunks tombstones w part storable indexed text chunks_short none
