-- The chunks of rows, which stand one after another, have exactly the samples of the rows.
use Rattle.std.proofs.Common.{◌≡◌, ℕ, zero, suc, ◌+◌, ◌≤◌, Bool, true, List, [], ◌∷◌, ◌++◌, length}
use Rattle.std.proofs.Common.{take, drop, map, refl, sym, ap, subst, ◌∙◌, append_assoc, arith}
use Rattle.std.specs.Prelude.{ℤ, T}
use Rattle.std.specs.List.{flat_map, list_all, AllByRecursion}
use Rattle.std.specs.Bool.{IsTrue}
use Rattle.std.specs.Ordering.{int_cmp}
use Rattle.std.specs.FinMap.Entries.{is_sorted}
use Rattle.std.proofs.Math.Seq.{drop-append_seam}
use Rattle.std.proofs.lemmas.List.{length-drop, take-append-drop, drop-drop}
use Rattle.labels.specs.Labels.{labels_cmp}
use Rattle.labels.specs.Rows.{Row}
use Rattle.labels.proofs.Times.{first_T, second_T, T_of}
use Rattle.index_reader.specs.declared.chunk.Chunk.{Chunk}
use Rattle.index_reader.specs.Indexes.{Series, Indexed}
use Rattle.index_reader.specs.Spelled.{IsIndex}
use Rattle.chunk_reader.specs.Grammar.{IsSegment}
use Rattle.tombstones.specs.Grammar.{IsTombstones}
use Rattle.block.specs.Samples.{undeleted}
use Rattle.block.specs.Sound.{lies_in}
use Rattle.block.specs.Grammar.{AreSpelled, IsRow, AreRowsOfSeries, IsBlock}
use Rattle.block_writer.specs.EntryBodies.{chunks_from, chunks_of}
use Rattle.block_writer.specs.PartRows.{has_some, is_series, are_part_rows}
use Rattle.block_writer.specs.SpellRows.{SpellRows}
use Rattle.block_writer.proofs.Storable.{AreSeriesOf, IsStorable, numbered}
use Rattle.block_writer.specs.Writing.{pieces, piece_text, series_text, chunks_text}
use Rattle.block_writer.proofs.PieceLaws.{AreReady, rest_ready, all_inside, piece_stands}

-- what stands behind a text that stands at a place
pub stands_on : (file text rest : List ℕ) (at : ℕ) → drop at file ≡ text ++ rest
    → drop (at + length text) file ≡ rest
stands_on file text rest at stands =
    sym (drop-drop (length text) at file)
    ∙ ap (drop (length text)) stands
    ∙ drop-append_seam text rest

-- the pieces of samples from a place on, and whatever is behind them
pub pieces_spell : (range : ℤ × ℤ) (file : List ℕ) (n at : ℕ) (samples : List (ℤ × ℤ))
    (rest : List ℕ) → length file ≤ 0x4000_0000 → 8 ≤ at → length samples ≤ n
    → AreReady range samples → drop at file ≡ flat_map piece_text (pieces n samples) ++ rest
    → AreSpelled file (chunks_from at (pieces n samples)) samples
unfolding pieces chunks_from
pieces_spell range file zero at [] rest short behind le ready stands = refl
pieces_spell range file (suc n) at [] rest short behind le ready stands = refl
pieces_spell range file zero at (s ∷ ss) rest short behind le ready stands =
    absurd (omega (arith, le))
pieces_spell range file (suc n) at (s ∷ ss) rest short behind le ready stands =
    let front : List (ℤ × ℤ) = take 120 (s ∷ ss) in
    let back : List (ℤ × ℤ) = drop 120 (s ∷ ss) in
    let others : List ℕ = flat_map piece_text (pieces n back) ++ rest in
    let here : drop at file ≡ piece_text front ++ others = stands
    ∙ append_assoc (piece_text front) (flat_map piece_text (pieces n back)) rest in (
      front,
      back,
      sym (take-append-drop 120 (s ∷ ss)),
      piece_stands file at range (s ∷ ss) others short behind (omega arith) ready here,
      pieces_spell range file n (at + length (piece_text front)) back rest short
          (omega (arith, behind)) (omega (arith, le, length-drop 120 (s ∷ ss)))
          (rest_ready range (s ∷ ss) ready) (stands_on file (piece_text front) others at here),
    )

-- where nothing is deleted all samples are kept
pub all_kept : (r : ℕ) (samples : List (ℤ × ℤ)) → undeleted [] r samples ≡ samples
all_kept r [] = refl
all_kept r (s ∷ ss) = ap (λ (xs : List (ℤ × ℤ)). s ∷ xs) (all_kept r ss)

-- rows in the order of the times of their samples, each of which a block of the range may have
abbrev pub AreReadyRows : ℤ × ℤ → List Row → Type 0
AreReadyRows range rows =
    AllByRecursion (λ (row : Row). T (is_sorted int_cmp row.1) × IsStorable range row) rows

pub row_spelled : (range : ℤ × ℤ) (file : List ℕ) (at : ℕ) (s : Series) (row : Row) (rest : List ℕ)
    → length file ≤ 0x4000_0000 → 8 ≤ at → T (is_sorted int_cmp row.1) → IsStorable range row
    → s.labels ≡ row.0 → s.chunks ≡ chunks_of at row.1
    → drop at file ≡ series_text row.1 ++ rest → IsRow range file [] s (s.reference, row)
row_spelled range file at s row rest short behind ascending storable labels chunks stands =
    let ready : AreReady range row.1 =
    record { ascending = ascending; storable = storable.samples } in
    record {
      reference = refl;
      labels = sym labels;
      samples = row.1;
      spelled =
          subst (λ (cs : List Chunk). AreSpelled file cs row.1) (sym chunks) (pieces_spell range
          file (length row.1) at row.1 rest short behind (omega arith) ready stands);
      few = storable.few;
      inside =
          subst (AllByRecursion (λ (c : Chunk). lies_in range c ≡ true)) (sym chunks)
          (all_inside range (length row.1) at row.1 ready);
      kept = sym (all_kept s.reference row.1);
    }

abbrev pub all_text : List Row → List ℕ
all_text rows = flat_map (λ (row : Row). series_text row.1) rows

pub rows_spelled : (range : ℤ × ℤ) (file : List ℕ) (at : ℕ) (ss : List Series) (rows : List Row)
    → length file ≤ 0x4000_0000 → 8 ≤ at → AreReadyRows range rows → AreSeriesOf at ss rows
    → drop at file ≡ all_text rows
    → AreRowsOfSeries range file [] ss (numbered ss rows)
rows_spelled range file at [] [] short behind ready series stands = tt
rows_spelled range file at [] (row ∷ rows) short behind ready series stands = absurd series
rows_spelled range file at (s ∷ ss) [] short behind ready series stands = absurd series
rows_spelled range file at (s ∷ ss) (row ∷ rows) short behind ready series stands = (
  row_spelled range file at s row (all_text rows) short behind ready.0.0 ready.0.1
      series.0 series.1 stands,
  rows_spelled range file (at + length (series_text row.1)) ss rows short (omega (arith, behind))
      ready.1 series.2 (stands_on file (series_text row.1) (all_text rows) at stands),
)

-- the numbered rows are the rows
pub numbered_rows : (at : ℕ) (ss : List Series) (rows : List Row) → AreSeriesOf at ss rows
    → map (λ (row : ℕ × Row). row.1) (numbered ss rows) ≡ rows
numbered_rows at [] [] series = refl
numbered_rows at [] (row ∷ rows) series = absurd series
numbered_rows at (s ∷ ss) [] series = absurd series
numbered_rows at (s ∷ ss) (row ∷ rows) series =
    ap (λ (rs : List Row). row ∷ rs)
    (numbered_rows (at + length (series_text row.1)) ss rows series.2)

-- rows that a part may have are in the order of their times
true_T : (b : Bool) → IsTrue b → T b
true_T b h = T_of b h

rows_ready : (range : ℤ × ℤ) (rows : List Row) → T (list_all is_series rows)
    → AllByRecursion (IsStorable range) rows → AreReadyRows range rows
rows_ready range [] full storable = tt
rows_ready range (row ∷ rows) full storable =
    let here : T (is_series row) = first_T (is_series row) (list_all is_series rows) full in (
      (second_T (has_some row.1) (is_sorted int_cmp row.1) here, storable.0),
      rows_ready range rows (second_T (is_series row) (list_all is_series rows) full) storable.1,
    )

-- the written files are those of a block with exactly the rows
pub files_spell : (range : ℤ × ℤ) (index chunks tombstones : List ℕ) (x : Indexed) (rows : List Row)
    → IsTrue (are_part_rows rows) → AllByRecursion (IsStorable range) rows → IsIndex index x
    → AreSeriesOf 8 x.series rows
    → chunks ≡ chunks_text rows → length chunks ≤ 0x4000_0000 → IsTombstones tombstones []
    → SpellRows range index chunks tombstones rows
files_spell range index chunks tombstones x rows part storable indexed series text short none =
    let full : T (list_all is_series rows) =
    second_T (is_sorted labels_cmp rows) (list_all is_series rows)
    (true_T (are_part_rows rows) part) in
    let segment : IsSegment chunks = record { short = short; head = (all_text rows, text) } in
    let block : IsBlock range index chunks tombstones (numbered x.series rows) = record {
      x = x;
      indexed = indexed;
      segment = segment;
      deletions = [];
      deleted = none;
      known = tt;
      rows =
          rows_spelled range chunks 8 x.series rows short (omega arith)
          (rows_ready range rows full storable) series (ap (drop 8) text);
    } in
    record {
      part = numbered x.series rows;
      spelled = block;
      exactly = numbered_rows 8 x.series rows series;
    }
