-- The layout, the gaps, the table and the sections of a written index.
use Rattle.std.proofs.Common.{◌≡◌, ℕ, ◌+◌, ◌≤◌, List, ◌++◌, length}
use Rattle.std.specs.List.{flat_map, AllByRecursion}
use Rattle.std.specs.Str.{IsUtf8}
use Rattle.labels.specs.Rows.{Row}
use Rattle.wire.specs.Checksum.{checked}
use Rattle.index_reader.specs.Grammar.{frame, contents_text, IsLayout}
use Rattle.index_reader.specs.Spelled.{table_text, AreZero}
use Rattle.index_reader.proofs.Gaps.{zeros_of}
use Rattle.block_writer.specs.EntryBodies.{bodies_of}
use Rattle.block_writer.specs.IndexText.{symbols_text, section_text, postings_text, index_text}
use Rattle.block_writer.specs.Written.{IsWrittenIndex}
use Rattle.block_writer.proofs.WrittenAs.{front_text, all_lists, table_of, contents_in, parts_in}
use Rattle.block_writer.proofs.LaidOut.{parts_are, gaps_are}

-- what stands behind the entries
abbrev pub behind_entries : List (List ℕ) → List (List ℕ × List ℕ) → List Row → List ℕ
behind_entries symbols pairs rows =
    flat_map section_text (all_lists symbols pairs rows)
    ++ (frame (table_text (table_of symbols pairs rows))
    ++ checked (contents_text (contents_in symbols pairs rows)))

pub spelled_as : (symbols : List (List ℕ)) (pairs : List (List ℕ × List ℕ)) (rows : List Row)
    (text : List ℕ) → text ≡ index_text symbols pairs rows
    → text ≡ front_text symbols rows ++ behind_entries symbols pairs rows
unfolding index_text postings_text
spelled_as symbols pairs rows text is = is

pub written_parts : (rows : List Row) (text : List ℕ) (w : IsWrittenIndex rows text)
    → length text ≤ 0x4000_0000 → AllByRecursion IsUtf8 w.symbols
    → IsLayout text (parts_in w.symbols w.pairs rows)
written_parts rows text w short texts =
    parts_are w.symbols (bodies_of w.symbols 8 rows) (flat_map section_text
    (all_lists w.symbols w.pairs rows)) (table_text (table_of w.symbols w.pairs rows)) text
    (spelled_as w.symbols w.pairs rows text w.spelled) short w.texts_held.ascending texts

pub written_gaps : (rows : List Row) (text : List ℕ) (w : IsWrittenIndex rows text)
    → AreZero text (5 + length (frame (symbols_text w.symbols)))
    (length (front_text w.symbols rows)) (parts_in w.symbols w.pairs rows).entries
written_gaps rows text w =
    zeros_of (parts_in w.symbols w.pairs rows).entries text (length (front_text w.symbols rows))
    (5 + length (frame (symbols_text w.symbols)))
    (gaps_are w.symbols (bodies_of w.symbols 8 rows) (behind_entries w.symbols w.pairs rows) text
    (spelled_as w.symbols w.pairs rows text w.spelled))
