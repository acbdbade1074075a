-- Reading a chunk from a file. Each check has its refusal, and the first that fails is answered.
use Rattle.std.specs.Prelude.{ℕ, zero, suc, ◌+◌, ◌-◌, ◌*◌, ◌/◌, ℤ, pos, ◌-ℤ◌, List, [], ◌∷◌, length}
use Rattle.std.specs.Prelude.{drop, slice_index, Result, Ok, Err, Bool, true, nat_lt, nat_le}
use Rattle.std.specs.Prelude.{int_lt, int_le, ◌==◌, ◌&&◌, ◌||◌, not, if◌then◌else◌}
use Rattle.std.specs.Ordering.{int_eq}
use Rattle.std.specs.Int.{w64, cast_signed}
use Rattle.byteorder.specs.Endian.{big_number}
use Rattle.labels.specs.declared.sample.TheConstants.{MIN_TIME, MAX_TIME}
use Rattle.wire.specs.Reading.{number_at, bytes_at, uvarint_at}
use Rattle.wire.specs.Checksum.{crc32c}
use Rattle.wire.specs.Outcome.{◌>>=◌, or_refused}
use Rattle.chunk_reader.specs.declared.error.ChunkError.{ChunkError}
use Rattle.chunk_reader.specs.declared.error.ChunkError.TheVariants.{Magic, Version, Reference, Crc}
use Rattle.chunk_reader.specs.declared.error.ChunkError.TheVariants.{XorEncoding, OtherEncoding}
use Rattle.chunk_reader.specs.declared.error.ChunkError.TheVariants.{Shape, TimesDisagree}
use Rattle.chunk_reader.specs.Grammar.{plain, segment_of, time_at}

-- a file that begins as it must
unfoldable pub opened : List ℕ → Result (List ℕ) ChunkError
opened file =
    if nat_lt 0x4000_0000 (length file) then Err Shape
    else (or_refused Magic (number_at 4 file) >>= λ magic.
    if magic.0 == 0x85BD_40DD then (or_refused Version (number_at 4 magic.1) >>= λ version.
    if version.0 == 0x0100_0000 then Ok file else Err Version)
    else Err Magic)

-- the encoding's byte and the body of the chunk in front
unfoldable pub content_at : List ℕ → Result (ℕ × List ℕ) ChunkError
content_at bytes = do
  len ← or_refused Crc (uvarint_at bytes)
  content ← or_refused Crc (bytes_at (len.0 + 1) len.1)
  sum ← or_refused Crc (number_at 4 content.1)
  if sum.0 == crc32c content.0 then Ok (slice_index content.0 0, drop 1 content.0) else Err Crc

abbrev pub signed_at : List ℕ → ℤ
signed_at bytes = cast_signed w64 (big_number 8 bytes)

-- this many samples
unfoldable pub samples_from : ℕ → List ℕ → List (ℤ × ℤ)
samples_from zero bytes = []
samples_from (suc n) bytes =
    (signed_at bytes, signed_at (drop 8 bytes)) ∷ samples_from n (drop 16 bytes)

-- as many samples as the bytes hold
abbrev pub samples_in : List ℕ → List (ℤ × ℤ)
samples_in bytes = samples_from (length bytes / 16) bytes

-- each time is above the one before it, and none is above the greatest
unfoldable pub rises : ℤ → List (ℤ × ℤ) → Bool
rises before [] = true
rises before (s ∷ samples) = int_lt before s.0 && int_le s.0 MAX_TIME && rises s.0 samples

-- the samples of body
unfoldable pub batch_in : List ℕ → Result (List (ℤ × ℤ)) ChunkError
batch_in body =
    if nat_lt (length body) 2 then Err Shape
    else if nat_lt 0 (big_number 2 body) && length body == 2 + 16 * big_number 2 body && rises
    (MIN_TIME -ℤ pos 1) (samples_in (drop 2 body)) then Ok (samples_in (drop 2 body))
    else Err Shape

unfoldable pub decode : ℕ → List ℕ → Result (List (ℤ × ℤ)) ChunkError
decode encoding body =
    if encoding == 1 then Err XorEncoding
    else if encoding == plain then batch_in body
    else Err OtherEncoding

-- whether the samples begin and end at these times
abbrev pub spans : ℤ → ℤ → List (ℤ × ℤ) → Bool
spans mint maxt samples =
    int_eq (time_at samples 0) mint && int_eq (time_at samples (length samples - 1)) maxt

-- whether a reference is of another segment, or of no place after the head of this one
abbrev pub is_outside : List ℕ → ℕ → Bool
is_outside file reference =
    not (segment_of reference == 0) || nat_lt reference 8 || nat_le (length file) reference

unfoldable pub samples_of : List ℕ → ℕ → ℤ → ℤ → Result (List (ℤ × ℤ)) ChunkError
samples_of file reference mint maxt =
    if is_outside file reference then Err Reference
    else (do
      content ← content_at (drop reference file)
      samples ← decode content.0 content.1
      if spans mint maxt samples then Ok samples else Err TimesDisagree)
