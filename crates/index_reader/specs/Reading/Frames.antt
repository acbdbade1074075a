-- Content with its checksum after it: the check of a frame.
use Rattle.std.specs.Prelude.{ℕ, List, Result, Ok, Err, ◌==◌, if◌then◌else◌}
use Rattle.wire.specs.Checksum.{crc32c}
use Rattle.wire.specs.Reading.{number_at, bytes_at}
use Rattle.index_reader.specs.declared.error.IndexError.{IndexError}
use Rattle.wire.specs.Outcome.{◌>>=◌, or_refused}

-- content of this length and its checksum, and what stands after them
abbrev pub checked_at : IndexError → ℕ × List ℕ → Result (List ℕ × List ℕ) IndexError
checked_at e len = do
  content ← or_refused e (bytes_at len.0 len.1)
  sum ← or_refused e (number_at 4 content.1)
  if sum.0 == crc32c content.0 then Ok (content.0, sum.1) else Err e

-- four bytes of length, the content, its checksum
unfoldable pub frame_at : IndexError → List ℕ → Result (List ℕ × List ℕ) IndexError
frame_at e bytes = or_refused e (number_at 4 bytes) >>= checked_at e
