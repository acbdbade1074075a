-- What events do with blocks.
use Rattle.std.specs.Prelude.{◌≡◌, ◌⊎◌, ℕ, ℤ, List, [], ◌∷◌, ◌++◌, map}
use Rattle.labels.specs.Labels.{Labels}
use Rattle.labels.specs.Rows.{AreRows}
use Rattle.labels.specs.Contents.{Content, between}
use Rattle.labels.specs.Parts.{rows_in}
use Rattle.block.specs.Grammar.{IsBlock}
use Rattle.block_writer.specs.Writing.{chunks_text}
use Rattle.block_writer.specs.Written.{IsWrittenIndex}
use Rattle.head.specs.Joins.{IsJoined}
use Rattle.head.specs.Worlds.{Event, batch, deletion, cut, joined}
use Rattle.head.specs.Heads.{BlockPart, SnapshotParts, world_of}
use Rattle.head.specs.Removing.{blocks_kept, survives}

-- a block's range, and the references and label sets of its part
abbrev pub frame_of : BlockPart → (ℤ × ℤ) × List (ℕ × Labels)
frame_of b = ((b.min, b.max), map (λ row. (row.0, row.1.0)) b.part)

-- the block has the range from one time up to another and exactly the rows of the samples; its part
-- is what the files spell that are written for these rows
pub record IsBlockOf (from to : ℤ) (samples : Content) (block : BlockPart) : Type 0 where
  pub min : block.min ≡ from
  pub max : block.max ≡ to
  pub rows : AreRows (rows_in block.part) samples
  pub index : List ℕ
  pub chunks : List ℕ
  pub tombstones : List ℕ
  pub index_written : IsWrittenIndex (rows_in block.part) index
  pub chunks_written : chunks ≡ chunks_text (rows_in block.part)
  pub spelled : IsBlock (from, to) index chunks tombstones block.part

-- A commit keeps the blocks. A deletion takes from each block exactly the samples that it strikes,
-- also those that a later block hides, and leaves the rest of each as it was. A cut keeps the
-- blocks and adds at most one, of the samples that leave the head. A join puts fewer blocks, which
-- hold the same, in the place of some that stand side by side, and keeps all others.
abbrev pub KeepsBlocks : Event → SnapshotParts → List BlockPart → Type 0
KeepsBlocks (batch xs) old new = new ≡ old.blocks
KeepsBlocks (deletion ms from to) old new = new ≡ blocks_kept (survives ms from to) old.blocks
KeepsBlocks (cut t) old new =
    (new ≡ old.blocks)
    ⊎ ((block : BlockPart) × (new ≡ old.blocks ++ block ∷ [])
    × IsBlockOf old.floor t (between old.floor t (world_of old).content) block)
KeepsBlocks (joined at count made) old new = IsJoined at count made old.blocks new
