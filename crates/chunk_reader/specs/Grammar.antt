-- The bytes of a chunks file, by what they spell.
use Rattle.std.specs.Prelude.{◌≡◌, ℕ, ℤ, pos, ◌-◌, ◌/◌, ◌^◌, ◌≤◌, ◌<◌, T, List, ◌∷◌, ◌++◌, length}
use Rattle.std.specs.Prelude.{drop, get_or}
use Rattle.std.specs.List.{flat_map, list_all, AllByRecursion}
use Rattle.std.specs.Ordering.{int_cmp}
use Rattle.std.specs.FinMap.Entries.{is_sorted}
use Rattle.std.specs.Int.{w64, cast_unsigned}
use Rattle.std.specs.Int.RustNames.{FitsSigned}
use Rattle.byteorder.specs.Endian.{big_bytes}
use Rattle.labels.specs.Contents.{is_time}
use Rattle.wire.specs.Spelling.{uvarint}
use Rattle.wire.specs.Checksum.{checked}

-- a time or a value: eight bytes, two's complement
abbrev pub signed_text : ℤ → List ℕ
signed_text z = big_bytes 8 (cast_unsigned w64 z)

abbrev pub sample_text : ℤ × ℤ → List ℕ
sample_text s = signed_text s.0 ++ signed_text s.1

-- the body: how many samples, in two bytes, and the samples
abbrev pub batch_text : List (ℤ × ℤ) → List ℕ
batch_text samples = big_bytes 2 (length samples) ++ flat_map sample_text samples

-- the length of the body, the byte of its encoding, the body, and the checksum of byte and body
abbrev pub chunk_text : ℕ → List ℕ → List ℕ
chunk_text encoding body = uvarint (length body) ++ checked (encoding ∷ body)

-- the encoding of samples that stand uncompressed
abbrev pub plain : ℕ
plain = 0xE0

abbrev pub time_at : List (ℤ × ℤ) → ℕ → ℤ
time_at samples i = (get_or samples i (pos 0, pos 0)).0

-- from 1 to 65,535 samples of numbers of 64 bits, the times strictly ascending and each a time
pub record IsBatch (samples : List (ℤ × ℤ)) : Type 0 where
  pub some : 0 < length samples
  pub few : length samples < 65536
  pub ascending : T (is_sorted int_cmp samples)
  pub times : T (list_all (λ s. is_time s.0) samples)
  pub values : AllByRecursion (λ s. FitsSigned w64 s.1) samples

-- the upper 32 bits of a reference are the number of a segment file, from 0; the lower 32 are a
-- place in it
abbrev pub segment_of : ℕ → ℕ
segment_of reference = reference / 2 ^ 32

-- the reference is of the first segment, which this file is; and at this place after the head
-- stands a chunk of these samples, which begin and end at these times
pub record IsChunk (file : List ℕ) (reference : ℕ) (mint maxt : ℤ)
    (samples : List (ℤ × ℤ)) : Type 0 where
  pub segment : segment_of reference ≡ 0
  pub behind_head : 8 ≤ reference
  pub stands : (rest : List ℕ)
      × (drop reference file ≡ chunk_text plain (batch_text samples) ++ rest)
  pub batch : IsBatch samples
  pub first : time_at samples 0 ≡ mint
  pub last : time_at samples (length samples - 1) ≡ maxt

-- a file of at most 1 GiB that begins as a segment of version 1 does
pub record IsSegment (file : List ℕ) : Type 0 where
  pub short : length file ≤ 0x4000_0000
  pub head : (rest : List ℕ) × (file ≡ 0x85 ∷ 0xBD ∷ 0x40 ∷ 0xDD ∷ 1 ∷ 0 ∷ 0 ∷ 0 ∷ rest)
