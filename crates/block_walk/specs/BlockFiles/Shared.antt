-- What one of several threads looks at.
use Rattle.std.specs.Prelude.{◌≡◌, ℕ, Bool, List, take, drop, Result, IfOk, OnOk}
use Rattle.std.specs.List.{AllByRecursion, list_all}
use Rattle.wire.specs.Outcome.{Answers}
use Rattle.chunk_reader.specs.declared.error.ChunkError.{ChunkError}
use Rattle.block_walk.specs.declared.chunk.Chunk.{Chunk}
use Rattle.block_walk.specs.BlockFiles.Reading.{each_check, chunk_check, have_few}
use Rattle.block_walk.specs.BlockFiles.Sound.{IsHeld}

-- so many elements, from a place on
abbrev pub stretch : {X : Type 0} → ℕ → ℕ → List X → List X
stretch from count xs = take count (drop from xs)

-- the first chunk that is refused is answered; else each is held, and the answer is whether each
-- series has few samples
pub record AreLookedAt (file : List ℕ) (lists : List (List Chunk))
    (r : Result Bool ChunkError) : Type 0 where
  pub exact : Answers (λ _. tt) r (each_check (each_check (chunk_check file)) lists)
  pub few : IfOk r (λ few. few ≡ list_all (have_few file) lists)
  pub held : OnOk r (AllByRecursion (AllByRecursion (IsHeld file)) lists)
