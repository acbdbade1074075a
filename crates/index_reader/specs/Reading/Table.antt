-- The checks of the offset table.
use Rattle.std.specs.List.{list_all}
use Rattle.std.specs.Prelude.{ℕ, List, [], length, Result, Ok, Err, ◌&&◌, ◌==◌, if◌then◌else◌, ◌-◌}
use Rattle.std.specs.Prelude.{slice_range}
use Rattle.wire.specs.Reading.{number_at, bytes_at, uvarint_at, byte_at}
use Rattle.index_reader.specs.declared.error.IndexError.{IndexError}
use Rattle.index_reader.specs.declared.error.IndexError.TheVariants.{Offsets}
use Rattle.index_reader.specs.declared.layout.TableOfContents.{TableOfContents}
use Rattle.index_reader.specs.Reading.Frames.{frame_at}
use Rattle.index_reader.specs.Layout.{rises, TableEntry, is_before, is_within}
use Rattle.index_reader.specs.Reading.Steps.{steps}
use Rattle.wire.specs.Outcome.{◌>>=◌, or_refused}

-- a text with its length before it
abbrev pub text_at : List ℕ → Result (List ℕ × List ℕ) IndexError
text_at bytes = do
  len ← or_refused Offsets (uvarint_at bytes)
  or_refused Offsets (bytes_at len.0 len.1)

-- an entry of the table, and what stands after it
unfoldable pub table_entry_at : List ℕ → Result (TableEntry × List ℕ) IndexError
table_entry_at bytes = do
  tag ← or_refused Offsets (byte_at bytes)
  if tag.0 == 2 then (do
    name ← text_at tag.1
    value ← text_at name.1
    offset ← or_refused Offsets (uvarint_at value.1)
    Ok (record { name = name.0; value = value.0; offset = offset.0 }, offset.1)) else Err Offsets

-- the content of the table, whose offsets are from the first place up to the second
unfoldable pub table_at : ℕ → ℕ → List ℕ → Result (List TableEntry) IndexError
table_at from to content = do
  n ← or_refused Offsets (number_at 4 content)
  found ← steps table_entry_at n.0 n.1
  if length found.1 == 0 && rises is_before found.0 && list_all (is_within from to) found.0
      then Ok found.0
      else Err Offsets

-- the frame of the label offset table, where there is one
abbrev pub label_offsets_at : List ℕ → TableOfContents → Result (List ℕ) IndexError
label_offsets_at file t = if t.label_offsets == 0 then Ok [] else (do
  frame ← frame_at Offsets (slice_range file t.label_offsets t.postings_offsets)
  Ok frame.0)

-- the content of the postings offset table, whose frame ends where the table of contents begins
unfoldable pub table_content_at : List ℕ → TableOfContents → Result (List ℕ) IndexError
table_content_at file t = do
  other ← label_offsets_at file t
  frame ← frame_at Offsets (slice_range file t.postings_offsets (length file - 52))
  if length frame.1 == 0 then Ok frame.0 else Err Offsets
