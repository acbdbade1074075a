-- Which blocks directories hold, and why they are not opened.
use Rattle.std.specs.Prelude.{◌≡◌, ℕ, ◌<◌, ◌≤◌, List, ◌∷◌, ◌++◌, length, map, string_bytes}
use Rattle.std.specs.Prelude.{Result, IfOk, IfErr, Vec}
use Rattle.std.specs.List.{AllZip}
use Rattle.std.proofs.Common.{Global}
use Rattle.block.specs.Blocks.{Shown}
use Rattle.head.specs.Blocks.{opening_of, part_in}
use Rattle.head.specs.Heads.{BlockPart, SnapshotParts}
use Rattle.snapshots.specs.declared.error.OpenError.TheVariants as store
use Rattle.commands.specs.Checking.{IsJudgedAt}
use Rattle.commands.specs.Judging.{IsSpelledAs}
use Rattle.commands.specs.Reading.{Host, Files, AreFilesAt, IsUnread}
use Rattle.commands.specs.declared.fault.Fault.{Fault}
use Rattle.commands.specs.declared.fault.Fault.TheVariants.{Refused, CannotRead, Memory}
use Rattle.commands.specs.declared.fault.Refusal.TheVariants.{Block, Open}
use Rattle.commands.specs.declared.judgement.Judgement.TheVariants as judgement

-- the block that a directory holds: the bytes of its files spell its range and its part
pub record IsBlockAt (reads : Host) (directory : List ℕ) (block : BlockPart) : Type 0 where
  pub files : Files
  pub found : AreFilesAt reads directory files
  pub spelled : IsSpelledAs files (block.min, block.max) block.part

-- the blocks that directories hold, in their order
abbrev pub AreBlocksAt : Host → List (List ℕ) → List BlockPart → Type 0
AreBlocksAt reads directories blocks = AllZip (IsBlockAt reads) directories blocks

-- why the block of a directory is not opened: a file cannot be read, or the files are judged to be
-- no block
abbrev pub IsBlockFault : Host → List ℕ → Fault → Type 0
IsBlockFault reads directory (CannotRead path) = IsUnread reads directory (string_bytes path)
IsBlockFault reads directory (Refused (Block error)) =
    IsJudgedAt reads directory (judgement.Refused error)
IsBlockFault reads directory Memory = Unit {0}
IsBlockFault reads directory other = ⊥

-- the directories before one hold blocks, and that one is at fault
pub record IsFirstFault (reads : Host) (directories : List (List ℕ)) (fault : Fault) : Type 0 where
  pub before : List (List ℕ)
  pub directory : List ℕ
  pub after : List (List ℕ)
  pub order : directories ≡ before ++ directory ∷ after
  pub blocks : List BlockPart
  pub opened : AreBlocksAt reads before blocks
  pub at : IsBlockFault reads directory fault

-- what came of opening directories: the blocks that they hold, or the fault of the first at fault
abbrev pub IsOpeningOutcome : Host → List (List ℕ) → Result (Vec Shown Global) Fault → Type 0
IsOpeningOutcome reads directories opened =
    IfOk opened (λ blocks. AreBlocksAt reads directories (map part_in blocks.items))
    × IfErr opened (λ fault. IsFirstFault reads directories fault)

-- each directory holds a block, and there are more than 63
pub record AreTooMany (reads : Host) (directories : List (List ℕ)) : Type 0 where
  pub blocks : List BlockPart
  pub opened : AreBlocksAt reads directories blocks
  pub many : 63 < length directories

-- why directories are not opened: by the first of them that is at fault, and then by their number
abbrev pub IsOpeningFault : Host → List (List ℕ) → Fault → Type 0
IsOpeningFault reads directories (CannotRead path) =
    IsFirstFault reads directories (CannotRead path)
IsOpeningFault reads directories (Refused (Block error)) =
    IsFirstFault reads directories (Refused (Block error))
IsOpeningFault reads directories (Refused (Open store.Limit)) = AreTooMany reads directories
IsOpeningFault reads directories Memory = Unit {0}
IsOpeningFault reads directories other = ⊥

-- the snapshot of the blocks that the directories hold, in their order, and of an empty head
pub record IsOpeningOf (reads : Host) (directories : List (List ℕ))
    (snapshot : SnapshotParts) : Type 0 where
  pub blocks : List BlockPart
  pub opened : AreBlocksAt reads directories blocks
  pub few : length directories ≤ 63
  pub is : snapshot ≡ opening_of blocks
