-- The files of a block, and what they spell.
use Rattle.std.specs.Prelude.{◌≡◌, ℕ, List, [], ◌∷◌, ◌++◌, Some, Result, Ok, Err, codes, decimal}
use Rattle.block.specs.declared.error.BlockError.{BlockError}
use Rattle.block.specs.declared.error.BlockError.TheVariants.{Memory}
use Rattle.block.specs.Blocks.{Shown}
use Rattle.block.specs.Grammar.{IsBlock}
use Rattle.block.specs.Metas.{or_meta, range_said}
use Rattle.block.specs.Opening.{block_of}
use Rattle.data_folder.specs.States.{Named}
use Rattle.head.specs.Blocks.{part_in}
use Rattle.head.specs.Heads.{BlockPart}
use Rattle.head_record.specs.Saved.{Place}
use Rattle.store_folder.specs.declared.blocks.BlockBytes.{BlockBytes}
use Rattle.wire.specs.Outcome.{◌>>=◌}

-- the files of a block
pub record BlockFiles : Type 0 where
  pub meta : List ℕ
  pub index : List ℕ
  pub chunks : List ℕ
  pub tombstones : List ℕ

abbrev pub files_in : BlockBytes → BlockFiles
files_in files = record {
  meta = files.meta.items;
  index = files.index.items;
  chunks = files.chunks.items;
  tombstones = files.tombstones.items;
}

-- the name of a file of the block with this number
abbrev pub name_in : ℕ → List ℕ → List ℕ
name_in number name = codes "blocks/" ++ (decimal number ++ (codes "/" ++ name))

-- where the files of a block lie
abbrev pub named_files : Place → BlockFiles → List Named
named_files place files =
    (name_in place.0 (codes "meta.json"), files.meta)
    ∷ (name_in place.0 (codes "index"), files.index)
    ∷ (name_in place.0 (codes "chunks/000001"), files.chunks)
    ∷ (name_in place.0 (codes "tombstones"), files.tombstones)
    ∷ []

-- these files spell the block
pub record SpellBlock (files : BlockFiles) (part : BlockPart) : Type 0 where
  pub range : range_said files.meta ≡ Some (part.min, part.max)
  pub block : IsBlock (part.min, part.max) files.index files.chunks files.tombstones part.part

-- what reading the files gives, check by check: the range that `meta.json` says, and then the block
abbrev pub shown_of : BlockFiles → Result Shown BlockError
shown_of files =
    or_meta (range_said files.meta)
    >>= (λ range. block_of range files.index files.chunks files.tombstones)

-- the answer is the block, or memory ran out
abbrev pub GivesBlock : BlockPart → Result Shown BlockError → Type 0
GivesBlock part (Ok b) = part_in b ≡ part
GivesBlock part (Err e) = e ≡ Memory
