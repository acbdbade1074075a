-- What a cut leaves of the blocks.
use Rattle.std.specs.Prelude.{IsTrue}
use Rattle.std.specs.Prelude.{◌≡◌, ◌≢◌, ◌<◌, ◌⊎◌, ℤ, true, List, [], ◌∷◌, ◌++◌, length, Result, Ok}
use Rattle.std.specs.Prelude.{Err, if◌then◌else◌}
use Rattle.labels.specs.Contents.{Content, between}
use Rattle.labels.specs.Rows.{Row, AreRows}
use Rattle.block_writer.specs.PartRows.{are_part_rows}
use Rattle.block_writer.specs.SpellRows.{AreWithin}
use Rattle.head.specs.Fits.{files_fit, fits}
use Rattle.head.specs.Refusals.{Refusal, limit}
use Rattle.head.specs.Heads.{BlockPart, SnapshotParts, world_of}
use Rattle.head.specs.Kept.{IsBlockOf}

-- the samples from the floor up to the time, which leave the head
abbrev pub leaving : ℤ → SnapshotParts → Content
leaving t s = between s.floor t (world_of s).content

-- rows of the samples that leave: in label order, as a block from the floor up to the time may
-- have them
pub record AreLeaving (t : ℤ) (s : SnapshotParts) (rows : List Row) : Type 0 where
  pub exact : AreRows rows (leaving t s)
  pub writable : IsTrue (are_part_rows rows)
  pub within : AreWithin (s.floor, t) rows

-- the blocks and one more, of the samples that leave
pub record HaveCutBlock (t : ℤ) (s : SnapshotParts) (blocks : List BlockPart) : Type 0 where
  pub some : leaving t s ≢ []
  pub room : length s.blocks < 63
  pub fit : fits (leaving t s) ≡ true
  pub block : BlockPart
  pub added : blocks ≡ s.blocks ++ block ∷ []
  pub is : IsBlockOf s.floor t (leaving t s) block

-- the blocks as they were, where no sample leaves, or else one more
abbrev pub AreCutBlocks : ℤ → SnapshotParts → List BlockPart → Type 0
AreCutBlocks t s blocks = ((leaving t s ≡ []) × (blocks ≡ s.blocks)) ⊎ HaveCutBlock t s blocks

-- whether rows can be written
abbrev pub written_if_fit : List Row → Result (Unit {0}) Refusal
written_if_fit rows = if files_fit rows then Ok tt else Err limit
