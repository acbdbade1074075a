-- The body of a series entry, by the numbers of its symbols.
use Rattle.std.specs.Prelude.{ℕ, ◌+◌, ◌-◌, List, [], ◌∷◌, ◌++◌, length, get_or, Result, Ok, Err}
use Rattle.std.specs.Prelude.{Option, Some, None, Bool, nat_lt, nat_le, ◌==◌, ◌&&◌, if◌then◌else◌}
use Rattle.labels.specs.Names.{is_name}
use Rattle.wire.specs.Reading.{uvarint_at}
use Rattle.block_walk.specs.declared.error.WalkError.{WalkError}
use Rattle.block_walk.specs.declared.error.WalkError.TheVariants.{Series}
use Rattle.wire.specs.Outcome.{◌>>=◌, or_refused}
use Rattle.block_walk.specs.declared.chunk.Chunk.{Chunk}
use Rattle.block_walk.specs.IndexFile.Chunks.{first_chunk_at, later_chunk_at}
use Rattle.block_walk.specs.IndexFile.Layout.{Label, Body}
use Rattle.block_walk.specs.IndexFile.Steps.{steps}

-- a name from this symbol on, and a value that is not empty
unfoldable pub is_label : List (List ℕ) → ℕ → ℕ → ℕ → Bool
is_label symbols low name value =
    nat_le low name && nat_lt name (length symbols) && nat_lt value (length symbols)
    && is_name (get_or symbols name []) && nat_lt 0 (length (get_or symbols value []))

-- a label, where names begin at a symbol: the next begins after it
unfoldable pub label_at : List (List ℕ) → ℕ × List ℕ → Result (Label × (ℕ × List ℕ)) WalkError
label_at symbols s = do
  name ← or_refused Series (uvarint_at s.1)
  value ← or_refused Series (uvarint_at name.1)
  if is_label symbols s.0 name.0 value.0 then Ok ((name.0, value.0), (name.0 + 1, value.1))
      else Err Series

-- the count of labels, and the labels
unfoldable pub labels_at : List (List ℕ) → List ℕ → Result (List Label × (ℕ × List ℕ)) WalkError
labels_at symbols bytes = do
  n ← or_refused Series (uvarint_at bytes)
  steps (label_at symbols) n.0 (0, n.1)

-- what was read, or the refusal of a body that is not of the form
abbrev pub or_series : {A : Type 0} → Option A → Result A WalkError
or_series (Some x) = Ok x
or_series None = Err Series

-- a chunk after another
unfoldable pub chunk_at : Chunk × List ℕ → Result (Chunk × (Chunk × List ℕ)) WalkError
chunk_at s = do
  next ← or_series (later_chunk_at s.0 s.1)
  Ok (next.0, next)

-- later chunks with the first before them
abbrev pub behind : Chunk → Result (List Chunk × (Chunk × List ℕ)) WalkError
    → Result (List Chunk × (Chunk × List ℕ)) WalkError
behind c (Ok x) = Ok (c ∷ x.0, x.1)
behind c (Err e) = Err e

-- the count of chunks, the first, and the later ones
unfoldable pub chunks_at : List ℕ → Result (List Chunk × (Chunk × List ℕ)) WalkError
chunks_at bytes = do
  n ← or_refused Series (uvarint_at bytes)
  if n.0 == 0 then Err Series else (do
    first ← or_series (first_chunk_at n.1)
    behind first.0 (steps chunk_at (n.0 - 1) first))

-- a body, of which nothing is left over
unfoldable pub body_at : List (List ℕ) → List ℕ → Result Body WalkError
body_at symbols bytes = do
  labels ← labels_at symbols bytes
  chunks ← chunks_at labels.1.1
  if length chunks.1.1 == 0 then Ok (record { labels = labels.0; chunks = chunks.0 })
      else Err Series

-- after the labels and chunks that were there before
abbrev pub behind_both : List Label → List Chunk → Result Body WalkError
    → Result (List Label × List Chunk) WalkError
behind_both labels chunks (Ok b) = Ok (labels ++ b.labels, chunks ++ b.chunks)
behind_both labels chunks (Err e) = Err e
