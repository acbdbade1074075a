-- Reading the record in front, or why there is none.
use Rattle.std.specs.Prelude.{ℕ, List, [], ◌∷◌, Result, Ok, Err, ◌==◌, ◌&&◌, if◌then◌else◌}
use Rattle.byteorder.specs.Endian.{big_bytes}
use Rattle.wire.specs.Reading.{byte_at, bytes_at, number_at}
use Rattle.wire.specs.Checksum.{crc32c}
use Rattle.wire.specs.Outcome.{◌>>=◌, or_refused}
use Rattle.journal.specs.declared.error.JournalError.{JournalError}
use Rattle.journal.specs.declared.error.JournalError.TheVariants.{Magic, Version}
use Rattle.journal.specs.declared.record.Stop.{Stop}
use Rattle.journal.specs.declared.record.Stop.TheVariants.{Torn, Checksum, Length}
use Rattle.journal.specs.Records.{is_blank, is_length}

-- eight bytes that are no length
abbrev pub length_stop : List ℕ → Stop
length_stop bytes = if is_blank bytes then Torn else Length

-- a wrong checksum, with these bytes after it
abbrev pub sum_stop : List ℕ → Stop
sum_stop [] = Torn
sum_stop (b ∷ after) = Checksum

-- the checksum that stands after a length
abbrev pub sum_of : ℕ → ℕ
sum_of n = crc32c (big_bytes 4 n)

-- the length in front and the bytes after its checksum
unfoldable pub length_at : List ℕ → Result (ℕ × List ℕ) Stop
length_at bytes = do
  len ← or_refused Torn (number_at 4 bytes)
  sum ← or_refused Torn (number_at 4 len.1)
  if is_length len.0 && sum.0 == sum_of len.0 then Ok (len.0, sum.1) else Err (length_stop bytes)

-- the content in front and the bytes after its record
unfoldable pub record_at : List ℕ → Result (List ℕ × List ℕ) Stop
record_at bytes = do
  len ← length_at bytes
  content ← or_refused Torn (bytes_at len.0 len.1)
  sum ← or_refused Torn (number_at 4 content.1)
  if sum.0 == crc32c content.0 then Ok (content.0, sum.1) else Err (sum_stop sum.1)

-- the bytes after the header
unfoldable pub after_header : List ℕ → Result (List ℕ) JournalError
after_header file = do
  magic ← or_refused Magic (number_at 4 file)
  if magic.0 == 0x465A_4C4A then (do
    version ← or_refused Version (byte_at magic.1)
    if version.0 == 1 then Ok version.1 else Err Version)
      else Err Magic
