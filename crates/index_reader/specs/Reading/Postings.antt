-- The checks of the postings sections that the offset table names.
use Rattle.std.specs.Prelude.{ℕ, List, length, Result, Ok, Err, ◌&&◌, nat_lt, ◌==◌, if◌then◌else◌}
use Rattle.std.specs.Prelude.{slice_range, ◌*◌}
use Rattle.wire.specs.Reading.{number_at}
use Rattle.index_reader.specs.declared.error.IndexError.{IndexError}
use Rattle.index_reader.specs.declared.error.IndexError.TheVariants.{PostingsCrc, Postings}
use Rattle.index_reader.specs.Reading.Frames.{frame_at}
use Rattle.index_reader.specs.Layout.{rises, TableEntry}
use Rattle.index_reader.specs.References.{references_in}
use Rattle.index_reader.specs.Reading.Steps.{each}
use Rattle.wire.specs.Outcome.{◌>>=◌, or_refused}

-- the content of the section of an entry, below this place
unfoldable pub section_at : List ℕ → ℕ → TableEntry → Result (List ℕ) IndexError
section_at file to l = do
  frame ← frame_at PostingsCrc (slice_range file l.offset to)
  Ok frame.0

-- the references of a content
unfoldable pub references_at : List ℕ → Result (List ℕ) IndexError
references_at content = do
  n ← or_refused Postings (number_at 4 content)
  if length n.1 == 4 * n.0 && rises nat_lt (references_in n.1) then Ok n.1 else Err Postings

-- the bytes of the references of each entry: all frames, and then all contents
unfoldable pub lists_at : List ℕ → ℕ → List TableEntry → Result (List (List ℕ)) IndexError
lists_at file to ls = do
  contents ← each (section_at file to) ls
  each references_at contents
