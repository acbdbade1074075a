-- The files of a block of rows.
use Rattle.std.specs.Prelude.{◌≡◌, ℕ, ℤ, List, Vec, Some}
use Rattle.std.proofs.Common.{Global, sym, ap, subst, ◌∙◌}
use Rattle.labels.specs.Rows.{Row}
use Rattle.block.specs.Metas.{range_said}
use Rattle.block.specs.Ranges.{IsRange}
use Rattle.block_folder.specs.declared.folder.Place.{Place}
use Rattle.block_folder.specs.declared.folder.Files.{Files}
use Rattle.block_folder.specs.declared.values.Values.{Values}
use Rattle.block_folder.specs.Blocks.{IsPlace, WritesWhole}
use Rattle.block_folder.specs.Meanings.{values_said}
use Rattle.block_folder.specs.Steps.{Did, whole}
use Rattle.block_writer.specs.SpellRows.{AreWithin, SpellRows}
use Rattle.block_outputs.specs.Writing.{WritesBlock}

-- what was called for the files of rows
pub block_written : {D : Type 0} (did : D → List Did → Type 0) (into : List ℕ) (values : Values)
    (rows : List Row) (old new : D) (place : Place) (files : Files) (range : ℤ × ℤ)
    (meta index tombstones : List ℕ) (chunks : List (Vec ℕ Global))
    → WritesWhole did place files old new → IsPlace place
    → place.parent.now ≡ into → IsRange range → files.meta.now ≡ meta → files.index.now ≡ index
    → files.chunks.now ≡ chunks → files.tombstones.now ≡ tombstones → range_said meta ≡ Some range
    → values_said meta ≡ Some values → AreWithin range rows
    → SpellRows range index (whole chunks) tombstones rows
    → WritesBlock did into values rows old new
block_written did into values rows old new place files range meta index tombstones chunks done
    is_place parent is m i c t said meaning within spelled = record {
      place = place;
      parent = parent;
      is_place = is_place;
      range = range;
      is_range = is;
      within = within;
      files = files;
      said = ap range_said m ∙ said;
      meaning = ap values_said m ∙ meaning;
      spelled =
          subst (λ (x : List ℕ).
          SpellRows range x (whole files.chunks.now) files.tombstones.now rows) (sym i)
          (subst (λ (x : List (Vec ℕ Global)).
          SpellRows range index (whole x) files.tombstones.now rows) (sym c)
          (subst (λ (x : List ℕ). SpellRows range index (whole chunks) x rows) (sym t) spelled));
      written = done;
    }
