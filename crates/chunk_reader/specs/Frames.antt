-- What stands in the frame of a chunk, whichever its encoding is.
use Rattle.std.specs.Prelude.{◌≡◌, ℕ, ◌≤◌, List, ◌++◌, drop, Result, Ok, Err, if◌then◌else◌}
use Rattle.wire.specs.Outcome.{Answers}
use Rattle.chunk_reader.specs.declared.error.ChunkError.{ChunkError}
use Rattle.chunk_reader.specs.declared.error.ChunkError.TheVariants.{Reference}
use Rattle.chunk_reader.specs.Grammar.{chunk_text, segment_of}
use Rattle.chunk_reader.specs.Reading.{content_at, is_outside}

-- reading it
unfoldable pub framed_at : List ℕ → ℕ → Result (ℕ × List ℕ) ChunkError
framed_at file reference =
    if is_outside file reference then Err Reference else content_at (drop reference file)

-- the reference is of the first segment, which this file is; and at this place after the head
-- stands a chunk with this encoding and this body
pub record IsFramed (file : List ℕ) (reference encoding : ℕ) (body : List ℕ) : Type 0 where
  pub segment : segment_of reference ≡ 0
  pub behind_head : 8 ≤ reference
  pub stands : (rest : List ℕ) × (drop reference file ≡ chunk_text encoding body ++ rest)

-- what a call answered is a frame with this encoding and this body
abbrev pub AnswersFrame : {F E : Type 0} → (F → ℕ × List ℕ) → Result F E → ℕ → List ℕ → Type 0
AnswersFrame view result encoding body =
    Answers view result (Ok (encoding, body))
