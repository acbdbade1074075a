-- Reading a chunk of a segment. Each check has its refusal, and the first that fails is answered.
use Rattle.std.specs.Prelude.{ℕ, ℤ, ◌+◌, ◌*◌, ◌-◌, ◌%◌, List, [], ◌∷◌, length, get_or, pos, Bool}
use Rattle.std.specs.Prelude.{not, ◌&&◌, ◌||◌, ◌==◌, Result, Ok, Err, if◌then◌else◌}
use Rattle.std.specs.Ordering.{int_eq}
use Rattle.wire.specs.Outcome.{◌>>=◌}
use Rattle.chunk_reader.specs.declared.error.ChunkError.TheVariants.{OtherEncoding, Shape}
use Rattle.chunk_reader.specs.declared.error.ChunkError.TheVariants.{TimesDisagree}
use Rattle.chunk_reader.specs.Frames.{framed_at}
use Rattle.xor_reader.specs.Grammar.{Sample}
use Rattle.xor_reader.specs.Reading.{samples_at}
use Rattle.prometheus_block.specs.declared.error.SourceError.{SourceError}
use Rattle.prometheus_block.specs.declared.error.SourceError.TheVariants as source
use Rattle.index_reader.specs.declared.chunk.Chunk.{Chunk}
use Rattle.prometheus_block.specs.Outcome.{or_chunk, or_xor}

-- samples, and how many histograms
abbrev pub Held : Type 0
Held = List Sample × ℕ

-- the time of the sample at a place
abbrev pub time_at : List Sample → ℕ → ℤ
time_at samples i = (get_or samples i (pos 0, 0)).0

-- whether there are samples, and they begin and end at the times of a chunk
abbrev pub spans : Chunk → List Sample → Bool
spans c samples = not (length samples == 0) && (int_eq (time_at samples 0) c.mint
    && int_eq (time_at samples (length samples - 1)) c.maxt)

-- the samples of an XOR chunk, which begin and end at its times
unfoldable pub floats_at : Chunk → List ℕ → Result (List Sample) SourceError
floats_at c body = or_xor (samples_at body) >>= λ samples.
    if spans c samples then Ok samples else Err (source.Chunk TimesDisagree)

-- the count of a chunk: its first two bytes
abbrev pub count_at : List ℕ → Result ℕ SourceError
count_at [] = Err (source.Chunk Shape)
count_at (high ∷ []) = Err (source.Chunk Shape)
count_at (high ∷ low ∷ rest) = Ok (high * 256 + low)

-- what a body holds by its encoding: XOR, or histograms of whole numbers or of doubles
unfoldable pub held_in : Chunk → ℕ → List ℕ → Result Held SourceError
held_in c encoding body =
    if encoding == 1 then (floats_at c body >>= λ samples. Ok (samples, 0))
    else if encoding == 2 || encoding == 3 then (count_at body >>= λ count. Ok ([], count))
    else Err (source.Chunk OtherEncoding)

-- what a chunk holds that stands in a segment, at the place that the lower 32 bits of its reference
-- are
unfoldable pub chunk_read : List ℕ → Chunk → Result Held SourceError
chunk_read segment c = or_chunk (framed_at segment (c.reference % 0x1_0000_0000)) >>= λ frame.
    held_in c frame.0 frame.1
