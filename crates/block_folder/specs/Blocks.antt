-- The directory of a block, and what a crash leaves of it.
use Rattle.std.specs.Prelude.{◌≡◌, ◌≢◌, ◌⊎◌, ℕ, List, [], ◌∷◌, codes, Some}
use Rattle.block_folder.specs.declared.folder.Place.{Place}
use Rattle.block_folder.specs.declared.folder.Files.{Files}
use Rattle.block_folder.specs.declared.folder.Paths.{Paths}
use Rattle.block_folder.specs.declared.folder.FolderError.{FolderError}
use Rattle.block_folder.specs.declared.folder.FolderError.TheVariants.{Memory, Disk}
use Rattle.block_folder.specs.Steps.{Call, Make, Write, Sync, Rename, Did, DoesAll, DoesUpToOne}
use Rattle.block_folder.specs.Steps.{all_done, whole}
use Rattle.block_folder.specs.Trees.{Tree, File, IsAt, IsCutOff, IsFree, IsName, MayLeave, path_in}

-- two names in one directory
pub record IsPlace (place : Place) : Type 0 where
  pub own : List ℕ
  pub other : List ℕ
  pub block : place.block.now ≡ path_in place.parent.now own
  pub unfinished : place.unfinished.now ≡ path_in place.parent.now other
  pub own_is : IsName own
  pub other_is : IsName other
  pub are_two : own ≢ other

-- the four files of a block stand in the directory of this path
pub record HasBlock (path : List ℕ) (files : Files) (tree : Tree) : Type 0 where
  pub meta : tree (path_in path (codes "meta.json")) ≡ Some (File files.meta.now)
  pub index : tree (path_in path (codes "index")) ≡ Some (File files.index.now)
  pub chunks : tree (path_in path (codes "chunks/000001")) ≡ Some (File (whole files.chunks.now))
  pub tombstones : tree (path_in path (codes "tombstones")) ≡ Some (File files.tombstones.now)

-- At whatever moment of these calls the machine stops, nothing has the block's name that did not
-- have it, or the whole block has it; and all that stands beside the block's two names stays.
pub record IsNeverHalf (place : Place) (files : Files) (calls : List Call) : Type 0 where
  pub whole : (log : List Did) (old new : Tree) → IsCutOff calls log → MayLeave log old new
      → IsFree place.block.now old
      → IsFree place.block.now new ⊎ HasBlock place.block.now files new
  pub beside : (log : List Did) (old new : Tree) → IsCutOff calls log → MayLeave log old new
      → (path : List ℕ) → (IsAt place.block.now path → ⊥) → (IsAt place.unfinished.now path → ⊥)
      → new path ≡ old path

-- the same, and once all of them are done each crash leaves the whole block
pub record IsWholeAtLast (place : Place) (files : Files) (calls : List Call) : Type 0 where
  pub any_moment : IsNeverHalf place files calls
  pub lasting : (old new : Tree) → MayLeave (all_done calls) old new
      → HasBlock place.block.now files new

-- the block was written by calls, each of which was done
abbrev pub WritesWhole : {D : Type 0} → (D → List Did → Type 0) → Place → Files → D → D → Type 0
WritesWhole did place files old new =
    (calls : List Call) × DoesAll did calls old new
    × (IsPlace place → IsWholeAtLast place files calls)

-- what was called if the block is not written: nothing for want of memory, else calls up to one
-- that failed
abbrev pub FailsSo : {D : Type 0} → (D → List Did → Type 0) → FolderError → Place → Files
    → D → D → Type 0
FailsSo did Memory place files old new = (log : List Did) → did old log → did new log
FailsSo did Disk place files old new =
    (calls : List Call) × DoesUpToOne did calls old new
    × (IsPlace place → IsNeverHalf place files calls)

-- the calls by which a block is written, at these paths
abbrev pub calls_at : Place → Paths → Files → List Call
calls_at place paths files =
    Make place.unfinished.now
    ∷ Make paths.chunks_folder.now
    ∷ Write paths.chunks.now (whole files.chunks.now)
    ∷ Write paths.index.now files.index.now
    ∷ Write paths.tombstones.now files.tombstones.now
    ∷ Write paths.meta.now files.meta.now
    ∷ Sync paths.chunks_folder.now
    ∷ Sync place.unfinished.now
    ∷ Rename place.unfinished.now place.block.now
    ∷ Sync place.parent.now
    ∷ []
