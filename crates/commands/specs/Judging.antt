-- What the files of a directory are judged to be.
use Rattle.std.specs.Prelude.{◌≡◌, ℕ, ℤ, Some, Result, Ok, Err, length}
use Rattle.labels.specs.Parts.{Part}
use Rattle.block.specs.Blocks.{Shown, sample_count}
use Rattle.block.specs.Grammar.{IsBlock}
use Rattle.block.specs.Metas.{or_meta, range_said}
use Rattle.block.specs.Opening.{block_of}
use Rattle.block.specs.declared.error.BlockError.{BlockError}
use Rattle.block.specs.declared.error.BlockError.TheVariants.{Memory}
use Rattle.commands.specs.Reading.{Files}
use Rattle.commands.specs.declared.files.BlockFiles.{BlockFiles}
use Rattle.commands.specs.declared.judgement.Judgement.{Judgement}
use Rattle.commands.specs.declared.judgement.Judgement.TheVariants.{Sound, Refused}

-- the bytes that were read
abbrev pub bytes_of : BlockFiles → Files
bytes_of files = record {
  meta = files.meta.items;
  index = files.index.items;
  chunks = files.chunks.items;
  tombstones = files.tombstones.items;
}

-- the block of a range that was read, or the first check that fails
abbrev pub block_in : Result (ℤ × ℤ) BlockError → Files → Result Shown BlockError
block_in (Ok range) files = block_of range files.index files.chunks files.tombstones
block_in (Err error) files = Err error

-- so many series, and so many samples that are not deleted
abbrev pub judgement_of : Result Shown BlockError → Judgement
judgement_of (Ok shown) = Sound (length shown.part) (sample_count shown.part)
judgement_of (Err error) = Refused error

-- the files are spelled as those of a block of this range and part
pub record IsSpelledAs (files : Files) (range : ℤ × ℤ) (part : Part) : Type 0 where
  pub says : range_said files.meta ≡ Some range
  pub block : IsBlock range files.index files.chunks files.tombstones part

-- the files are spelled as those of a block with so many series and samples
pub record SpellsBlock (files : Files) (series samples : ℕ) : Type 0 where
  pub range : ℤ × ℤ
  pub part : Part
  pub spelled : IsSpelledAs files range part
  pub series_are : series ≡ length part
  pub samples_are : samples ≡ sample_count part

-- what the grammar of blocks says of a judgement
abbrev pub IsSpelled : Files → Judgement → Type 0
IsSpelled files (Sound series samples) = SpellsBlock files series samples
IsSpelled files (Refused error) = (range : ℤ × ℤ) (part : Part) → IsSpelledAs files range part → ⊥

-- the judgement is the one of the first check that fails, and the grammar of blocks agrees
pub record IsJudged (files : Files) (judgement : Judgement) : Type 0 where
  pub first : judgement ≡ judgement_of (block_in (or_meta (range_said files.meta)) files)
  pub spelled : IsSpelled files judgement

-- the judgement is this refusal, and that no want of memory
abbrev pub IsRefusalOf : BlockError → Judgement → Type 0
IsRefusalOf Memory judgement = ⊥
IsRefusalOf error judgement = judgement ≡ Refused error
