-- The blocks of a snapshot.
use Rattle.std.specs.Prelude.{ℕ, ℤ, ◌+◌, zero, suc, List, [], ◌∷◌, ◌++◌}
use Rattle.std.specs.List.{All, fold}
use Rattle.std.specs.Int.{int_max}
use Rattle.labels.specs.declared.sample.TheConstants.{MIN_TIME}
use Rattle.postings.specs.declared.part_name.PartName.{PartName}
use Rattle.postings.specs.declared.part_name.PartName.TheVariants.{Block as BlockName, Head}
use Rattle.block.specs.Blocks.{Shown, AreInside}
use Rattle.head.specs.Heads.{BlockPart, SnapshotParts}

-- the range and the part of a block
abbrev pub part_in : Shown → BlockPart
part_in block = record { min = block.range.0; max = block.range.1; part = block.part }

-- the samples of each of these blocks lie in its range
abbrev pub EachInside : List Shown → Type 0
EachInside blocks = All (λ block. AreInside block.range block.part) blocks

-- where the floor of these blocks alone is: at the greatest end of their ranges, and at the
-- smallest time for none
abbrev pub opening_floor : List BlockPart → ℤ
opening_floor blocks = fold (λ floor block. int_max floor block.max) MIN_TIME blocks

-- these blocks and an empty head
abbrev pub opening_of : List BlockPart → SnapshotParts
opening_of blocks = record { blocks = blocks; head = []; floor = opening_floor blocks; copied = 0 }

-- the names of blocks, of which the first has this number
abbrev pub block_names : ℕ → ℕ → List PartName
block_names n zero = []
block_names n (suc m) = BlockName n ∷ block_names (n + 1) m

-- the names of the parts of a snapshot with so many blocks
abbrev pub part_names : ℕ → List PartName
part_names blocks = block_names 0 blocks ++ Head ∷ []
