-- Rows as the files of a block, and how they are written.
use Rattle.std.specs.Prelude.{◌≡◌, ◌⊎◌, ℕ, ◌+◌, ℤ, Bool, ◌&&◌, nat_le, List, [], ◌∷◌, length, Some}
use Rattle.std.specs.List.{list_all}
use Rattle.labels.specs.Rows.{Row}
use Rattle.block.specs.Metas.{range_said}
use Rattle.block.specs.Ranges.{IsRange, covers}
use Rattle.block_folder.specs.declared.folder.Place.{Place}
use Rattle.block_folder.specs.declared.folder.Files.{Files}
use Rattle.block_folder.specs.declared.values.Values.{Values}
use Rattle.block_folder.specs.Blocks.{IsPlace, WritesWhole}
use Rattle.block_folder.specs.Meanings.{values_said}
use Rattle.block_folder.specs.Steps.{Did, whole}
use Rattle.block_writer.specs.SpellRows.{AreWithin, SpellRows}

-- how many samples rows have
abbrev pub samples_in : List Row → ℕ
samples_in [] = 0
samples_in (row ∷ rows) = length row.1 + samples_in rows

-- whether the times of samples lie in a range
abbrev pub are_inside : ℤ × ℤ → List (ℤ × ℤ) → Bool
are_inside range samples = list_all (λ (s : ℤ × ℤ). covers range s.0) samples

-- whether a block of a range may have a row
abbrev pub is_within : ℤ × ℤ → Row → Bool
is_within range row = nat_le (length row.1) 1048576 && are_inside range row.1

-- whether it may have rows
abbrev pub are_within : ℤ × ℤ → List Row → Bool
are_within range rows = nat_le (length rows) 1048576 && list_all (is_within range) rows

-- a block is written in a directory, so that no crash leaves a half of it: its meta says a range
-- and what the values mean, and by the grammar of blocks its other files are a block of this range
-- with exactly these rows, which are no more than a block may have
pub record WritesBlock {D : Type 0} (did : D → List Did → Type 0) (into : List ℕ)
    (values : Values) (rows : List Row) (old new : D) : Type 0 where
  pub place : Place
  pub parent : place.parent.now ≡ into
  pub is_place : IsPlace place
  pub range : ℤ × ℤ
  pub is_range : IsRange range
  pub within : AreWithin range rows
  pub files : Files
  pub said : range_said files.meta.now ≡ Some range
  pub meaning : values_said files.meta.now ≡ Some values
  pub spelled : SpellRows range files.index.now (whole files.chunks.now) files.tombstones.now rows
  pub written : WritesWhole did place files old new

-- the same calls were made as before
abbrev pub IsStill : {D : Type 0} → (D → List Did → Type 0) → D → D → Type 0
IsStill did old new = (log : List Did) → did old log → did new log

-- a block of rows is written in a directory; nothing is called for no row
abbrev pub Writes : {D : Type 0} → (D → List Did → Type 0) → List ℕ → Values → List Row → D → D
    → Type 0
Writes did into values rows old new =
    ((rows ≡ []) × IsStill did old new) ⊎ WritesBlock did into values rows old new
