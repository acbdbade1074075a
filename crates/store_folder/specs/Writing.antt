-- Blocks that are written anew, and where.
use Rattle.std.specs.Prelude.{◌≡◌, ℕ, ◌+◌, zero, suc, Bool, List, [], ◌∷◌, ◌++◌, Option, None, Some}
use Rattle.std.specs.Prelude.{codes, map, string_bytes}
use Rattle.std.specs.List.{AllByRecursion}
use Rattle.block_folder.specs.declared.values.Values.{Values}
use Rattle.block_folder.specs.Meanings.{values_said}
use Rattle.block_rewriter.specs.declared.rewriting.Rewritten.{Rewritten}
use Rattle.block_rewriter.specs.Rows.{full_rows}
use Rattle.data_folder.specs.Folders.{HasFile, Left}
use Rattle.data_folder.specs.States.{AreThere, Named}
use Rattle.data_folder.specs.Sweeping.{KeepsStore}
use Rattle.head.specs.Heads.{BlockPart}
use Rattle.head_record.specs.Saved.{Place}
use Rattle.labels.specs.Parts.{rows_in}
use Rattle.labels.specs.Rows.{points_of}
use Rattle.store_folder.specs.Blocks.{BlockFiles, name_in}

abbrev pub files_in_memory : Rewritten → BlockFiles
files_in_memory files = record {
  meta = string_bytes files.meta;
  index = files.index.items;
  chunks = files.chunks.items;
  tombstones = files.tombstones.items;
}

-- A block written anew: it covers the same times, and its rows are those of the other block that
-- have a sample.
pub record IsRewritten (old new : BlockPart) : Type 0 where
  pub min : new.min ≡ old.min
  pub max : new.max ≡ old.max
  pub rows : rows_in new.part ≡ full_rows (rows_in old.part)

-- each of these blocks written anew, in their order
abbrev pub AreRewritten : List BlockPart → List BlockPart → Type 0
AreRewritten [] [] = Unit {0}
AreRewritten [] (b ∷ news) = ⊥
AreRewritten (a ∷ olds) [] = ⊥
AreRewritten (a ∷ olds) (b ∷ news) = IsRewritten a b × AreRewritten olds news

-- The block covers the same times as the other one and has the same samples.
pub record IsLike (old new : BlockPart) : Type 0 where
  pub min : new.min ≡ old.min
  pub max : new.max ≡ old.max
  pub points : points_of (rows_in old.part) ≡ points_of (rows_in new.part)

-- each block is like the other's at the same place
abbrev pub AreLike : List BlockPart → List BlockPart → Type 0
AreLike [] [] = Unit {0}
AreLike [] (b ∷ news) = ⊥
AreLike (a ∷ olds) [] = ⊥
AreLike (a ∷ olds) (b ∷ news) = IsLike a b × AreLike olds news

-- so many places, in folders of the numbers from this one on
abbrev pub places_from : ℕ → ℕ → List Place
places_from n zero = []
places_from n (suc m) = (n, 0) ∷ places_from (n + 1) m

-- the place that is found for the block at this index: none for one behind the list
abbrev pub found_at : List (Option Place) → ℕ → Option Place
found_at [] i = None
found_at (x ∷ found) zero = x
found_at (x ∷ found) (suc i) = found_at found i

-- those of these blocks for which no place is found
abbrev pub unfound : {A : Type 0} → List (Option Place) → List A → List A
unfound [] blocks = blocks
unfound (x ∷ found) [] = []
unfound (None ∷ found) (b ∷ blocks) = b ∷ unfound found blocks
unfound (Some p ∷ found) (b ∷ blocks) = unfound found blocks

-- the places of so many blocks: the one that is found, and for each other block, in order, a folder
-- of the numbers from this one on
abbrev pub places_with : ℕ → List (Option Place) → ℕ → List Place
places_with n [] m = places_from n m
places_with n (x ∷ found) zero = []
places_with n (None ∷ found) (suc m) = (n, 0) ∷ places_with (n + 1) found m
places_with n (Some p ∷ found) (suc m) = p ∷ places_with n found m

-- the `meta.json` of the block at this place lies there for good, and says this meaning
abbrev pub Says : {F : Type 0} → (F → List ℕ → Option (List ℕ) → Type 0)
    → (F → List ℕ → ℕ → Type 0) → Values → F → Place → Type 0
Says shows kept values f p =
    (meta : List ℕ) × HasFile shows kept (name_in p.0 (codes "meta.json")) meta f
    × (values_said meta ≡ Some values)

-- that of each block at these places does
abbrev pub EachSays : {F : Type 0} → (F → List ℕ → Option (List ℕ) → Type 0)
    → (F → List ℕ → ℕ → Type 0) → Values → List Place → F → Type 0
EachSays shows kept values places f =
    AllByRecursion (λ (p : Place). Says shows kept values f p) places

-- From old to new these files were written beside a store: they are there for good, their names are
-- the last of those to be kept, and what was to be kept stays, also after a crash at any moment.
pub record Wrote {F : Type 0} (shows : F → List ℕ → Option (List ℕ) → Type 0)
    (kept : F → List ℕ → ℕ → Type 0) (sound : F → Bool) (moment : F → ℕ)
    (left_since : F → ℕ → Left → Type 0) (files : List Named) (before after : List (List ℕ))
    (old new : F) : Type 0 where
  pub there : AreThere shows kept files new
  pub names : after ≡ before ++ map (λ (file : Named). file.0) files
  pub stays : KeepsStore shows kept sound moment left_since before old new
