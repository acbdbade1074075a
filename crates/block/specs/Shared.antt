-- What one of several threads looks at.
use Rattle.std.specs.Prelude.{◌≡◌, ℕ, Bool, List, take, drop, Result, IfOk, OnOk}
use Rattle.std.specs.List.{AllByRecursion, list_all}
use Rattle.index_reader.specs.declared.chunk.Chunk.{Chunk}
use Rattle.index_reader.specs.Indexes.{Series, chunk_lists}
use Rattle.chunk_reader.specs.declared.error.ChunkError.{ChunkError}
use Rattle.wire.specs.Outcome.{Answers}
use Rattle.block.specs.Opening.{each, chunk_check, have_few}
use Rattle.block.specs.Sound.{IsReadChunk}

-- the chunks of so many series, from a place on
abbrev pub lists_between : List Series → ℕ → ℕ → List (List Chunk)
lists_between series from count = take count (drop from (chunk_lists series))

-- the first chunk that is refused is answered; else each is held, and the answer is whether each
-- series has few samples
pub record IsLookedAt (file : List ℕ) (lists : List (List Chunk))
    (r : Result Bool ChunkError) : Type 0 where
  pub exact : Answers (λ _. tt) r (each (each (chunk_check file)) lists)
  pub few : IfOk r (λ few. few ≡ list_all (have_few file) lists)
  pub held : OnOk r (AllByRecursion (AllByRecursion (IsReadChunk file)) lists)
