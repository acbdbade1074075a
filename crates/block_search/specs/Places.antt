-- The places of parts in a snapshot: the number of a block, and for the head the number of all
-- blocks.
use Rattle.std.specs.Prelude.{ℕ, ◌+◌, List, [], ◌∷◌, ◌++◌, Option, Some, None, length, slice_get}
use Rattle.std.specs.Prelude.{if◌then◌else◌}
use Rattle.matchers.specs.Views.{QueryView}
use Rattle.postings.specs.declared.part_name.PartName.TheVariants.{Block as BlockName}
use Rattle.head.specs.Heads.{BlockPart, SnapshotParts}
use Rattle.block_search.specs.Skipping.{AskedPart, is_skipped, asked_head}

-- the block under this number, or the head where there is none
abbrev pub block_or_head : QueryView → SnapshotParts → ℕ → Option BlockPart → AskedPart
block_or_head query s n None = asked_head s
block_or_head query s n (Some b) =
    record { name = BlockName n; part = b.part; skipped = is_skipped query (b.min, b.max) }

-- the part at a place
abbrev pub part_at : QueryView → SnapshotParts → ℕ → AskedPart
part_at query s n = block_or_head query s n (slice_get s.blocks n)

-- the places of the searched blocks, of which the first has this number
abbrev pub block_places : QueryView → ℕ → List BlockPart → List ℕ
block_places query n [] = []
block_places query n (b ∷ bs) =
    if is_skipped query (b.min, b.max) then block_places query (n + 1) bs
    else n ∷ block_places query (n + 1) bs

-- the places of the searched parts, ascending
abbrev pub searched_places : QueryView → SnapshotParts → List ℕ
searched_places query s = block_places query 0 s.blocks ++ length s.blocks ∷ []
