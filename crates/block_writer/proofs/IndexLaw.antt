-- A written index is an index of its rows.
use Rattle.std.proofs.Common.{◌≡◌, ℕ, suc, ◌+◌, ◌≤◌, List, [], ◌∷◌, ◌++◌, length, refl, sym, ap}
use Rattle.std.proofs.Common.{subst, length-append, arith}
use Rattle.std.specs.Prelude.{ℤ, T}
use Rattle.std.specs.Bool.{IsTrue}
use Rattle.std.specs.List.{flat_map, list_all, AllByRecursion}
use Rattle.std.specs.List.Sorted.{IsStrictlyIncreasing}
use Rattle.std.specs.Str.{IsUtf8}
use Rattle.std.specs.FinMap.Entries.{is_sorted}
use Rattle.labels.specs.Labels.{labels_cmp}
use Rattle.labels.specs.LabelSets.{IsLabelSet}
use Rattle.labels.specs.Rows.{Row}
use Rattle.labels.proofs.Times.{first_T, T_of}
use Rattle.wire.specs.Checksum.{checked}
use Rattle.index_reader.specs.Grammar.{frame, contents_text}
use Rattle.index_reader.specs.Indexes.{references}
use Rattle.index_reader.specs.Spelled.{table_text, AreBodies, AreSections, IsIndex, lists_for}
use Rattle.block_writer.specs.EntryBodies.{bodies_of}
use Rattle.block_writer.specs.IndexText.{start_text, section_text, lists_of}
use Rattle.block_writer.specs.InUse.{texts_in}
use Rattle.block_writer.specs.PartRows.{is_series, are_part_rows}
use Rattle.block_writer.proofs.Storable.{IsStorable}
use Rattle.block_writer.specs.Writing.{chunks_text}
use Rattle.block_writer.specs.Written.{IsWrittenIndex}
use Rattle.block_writer.proofs.WrittenAs.{places_from, entries_of, references_in, front_text}
use Rattle.block_writer.proofs.WrittenAs.{all_lists, table_of, contents_in, parts_in, indexed_from}
use Rattle.block_writer.proofs.Bodied.{AreInTime, written_bodies}
use Rattle.block_writer.proofs.Consistent.{references_as, written_consistent}
use Rattle.block_writer.proofs.InUseLaws.{symbols_utf8, symbols_held, pairs_ascend}
use Rattle.block_writer.proofs.ListsRise.{lists_rise}
use Rattle.block_writer.proofs.RowSeries.{lists_are, series_are, references_rise}
use Rattle.block_writer.proofs.Small.{few_labels}
use Rattle.block_writer.proofs.Tabled.{pairs_are, sections_are, table_is}
use Rattle.block_writer.proofs.WrittenParts.{behind_entries, spelled_as, written_parts}
use Rattle.block_writer.proofs.WrittenParts.{written_gaps}

-- a list for each pair, and one for the empty pair
many_lists : (symbols : List (List ℕ)) (pairs : List (List ℕ × List ℕ)) (rows : List Row)
    → length (all_lists symbols pairs rows) ≡ length {A = List ℕ × List ℕ} (([], []) ∷ pairs)
many_lists symbols pairs rows = ap suc (many_as pairs rows (references_in symbols rows))
  where
    many_as : (pairs : List (List ℕ × List ℕ)) (rows : List Row) (refs : List ℕ)
        → length (lists_of pairs rows refs) ≡ length pairs
    many_as [] rows refs = refl
    many_as (p ∷ pairs) rows refs = ap suc (many_as pairs rows refs)

all_rise : (symbols : List (List ℕ)) (pairs : List (List ℕ × List ℕ)) (rows : List Row)
    → AllByRecursion IsStrictlyIncreasing (all_lists symbols pairs rows)
all_rise symbols pairs rows =
    let up : IsStrictlyIncreasing (references_in symbols rows) =
    references_rise (bodies_of symbols 8 rows) (length (start_text symbols)) in
    (up, lists_rise pairs rows (references_in symbols rows) up)

-- the lists, in the words of those who read them
lists_as : (symbols : List (List ℕ)) (pairs : List (List ℕ × List ℕ)) (rows : List Row)
    → all_lists symbols pairs rows ≡ references (indexed_from symbols pairs rows).series
    ∷ lists_for pairs (indexed_from symbols pairs rows).series
lists_as symbols pairs rows =
    λ i.
    sym (references_as symbols pairs rows) i ∷ lists_are pairs rows (references_in symbols rows) 8 i

written_sections : (symbols : List (List ℕ)) (pairs : List (List ℕ × List ℕ)) (rows : List Row)
    (text : List ℕ) → text ≡ front_text symbols rows ++ behind_entries symbols pairs rows
    → AreSections text (length (front_text symbols rows)
    + length (flat_map section_text (all_lists symbols pairs rows))) (table_of symbols pairs rows)
    (references (indexed_from symbols pairs rows).series
    ∷ lists_for pairs (indexed_from symbols pairs rows).series)
written_sections symbols pairs rows text is =
    let front : List ℕ = front_text symbols rows in
    let lists : List (List ℕ) = all_lists symbols pairs rows in
    let end : ℕ = length front + length (flat_map section_text lists) in
    let table = table_of symbols pairs rows in
    let rest : List ℕ =
    frame (table_text table) ++ checked (contents_text (contents_in symbols pairs rows)) in
    let whole : AreSections (front ++ (flat_map section_text lists ++ rest)) end table lists =
    sections_are (([], []) ∷ pairs) lists front rest (length front) end
    (many_lists symbols pairs rows) (all_rise symbols pairs rows) refl refl in
    subst (λ ls. AreSections text end table ls) (lists_as symbols pairs rows)
    (subst (λ xs. AreSections xs end table lists) (sym is) whole)

front_short : (front rest text : List ℕ) → text ≡ front ++ rest → length text ≤ 0x4000_0000
    → length front ≤ 0x4000_0000
front_short front rest text is short = omega (arith, ap length is, length-append front rest, short)

-- a written index whose bodies are spelled is an index
pub index_with_bodies : (rows : List Row) (text : List ℕ) (w : IsWrittenIndex rows text)
    → T (is_sorted labels_cmp rows) → AllByRecursion (λ (row : Row). IsLabelSet row.0) rows
    → AllByRecursion IsUtf8 (texts_in rows) → length rows ≤ 1048576 → length text ≤ 0x4000_0000
    → AreBodies w.symbols (places_from (length (start_text w.symbols)) (bodies_of w.symbols 8 rows))
    (entries_of w.symbols 8 rows) → IsIndex text (indexed_from w.symbols w.pairs rows)
index_with_bodies rows text w up sets texts few short bodies =
    let is : text ≡ front_text w.symbols rows ++ behind_entries w.symbols w.pairs rows =
    spelled_as w.symbols w.pairs rows text w.spelled in
    let pairs : List (List ℕ × List ℕ) = ([], []) ∷ w.pairs in
    record {
      parts = parts_in w.symbols w.pairs rows;
      layout = written_parts rows text w short (symbols_utf8 rows w.symbols texts w.texts_held);
      bodies = entries_of w.symbols 8 rows;
      spelled = bodies;
      gaps = written_gaps rows text w;
      series =
          series_are w.symbols rows (length (start_text w.symbols)) 8 w.texts_held.ascending
          (symbols_held rows w.symbols w.texts_held);
      few_labels = λ k d lt. few_labels w.symbols rows 8 k d sets lt;
      table = table_of w.symbols w.pairs rows;
      tabled =
          table_is pairs (all_lists w.symbols w.pairs rows) (front_text w.symbols rows) text
          (length (start_text w.symbols)) (pairs_ascend rows w.pairs sets w.pairs_held) is;
      listed =
          pairs_are pairs (all_lists w.symbols w.pairs rows) (length (front_text w.symbols rows))
          (many_lists w.symbols w.pairs rows);
      sections = written_sections w.symbols w.pairs rows text is;
      consistent =
          written_consistent w.symbols w.pairs rows up sets few (front_short (front_text w.symbols
          rows) (behind_entries w.symbols w.pairs rows) text is short) w.pairs_held;
    }

-- times of rows that a block may have
all_in_time : (range : ℤ × ℤ) (rows : List Row) → AllByRecursion (IsStorable range) rows
    → AllByRecursion AreInTime rows
all_in_time range [] storable = tt
all_in_time range (row ∷ rows) storable =
    (storable.0.samples.times, all_in_time range rows storable.1)

-- a written index of rows that a block of a range may have is an index of these rows
pub written_is_index : (range : ℤ × ℤ) (rows : List Row) (text : List ℕ)
    (w : IsWrittenIndex rows text) → IsTrue (are_part_rows rows)
    → AllByRecursion (λ (row : Row). IsLabelSet row.0) rows → AllByRecursion IsUtf8 (texts_in rows)
    → AllByRecursion (IsStorable range) rows
    → length rows ≤ 1048576 → length (chunks_text rows) ≤ 0x4000_0000 → length text ≤ 0x4000_0000
    → IsIndex text (indexed_from w.symbols w.pairs rows)
written_is_index range rows text w part sets texts storable few chunks_short short =
    let up : T (is_sorted labels_cmp rows) =
    first_T (is_sorted labels_cmp rows) (list_all is_series rows)
    (T_of (are_part_rows rows) part) in
    index_with_bodies rows text w up sets texts few short
    (written_bodies w.symbols (length (start_text w.symbols)) rows part w.texts_held sets
    (all_in_time range rows storable) chunks_short)
