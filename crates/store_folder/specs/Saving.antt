-- When a snapshot is saved in the place of the events that made it.
use Rattle.std.specs.Prelude.{◌≡◌, ◌+◌, ◌<◌, ◌≤◌, ◌⊎◌, ℕ, Bool, List, [], ◌∷◌, Option, None, Some}
use Rattle.std.specs.Prelude.{Ok, drop, slice_get}
use Rattle.std.specs.List.{AllByRecursion}
use Rattle.block.specs.Blocks.{Shown}
use Rattle.block_folder.specs.declared.values.Values.{Values}
use Rattle.data_folder.specs.declared.journal_file.JournalFile.{JournalFile}
use Rattle.data_folder.specs.Folders.{Left}
use Rattle.head.specs.Heads.{BlockPart, SnapshotParts, world_of}
use Rattle.head.specs.Resuming.{MayStand}
use Rattle.head.specs.Worlds.{Event, replayed}
use Rattle.head_record.specs.Saved.{Place, Saved, save}
use Rattle.store_folder.specs.Holding.{HoldsAt}
use Rattle.store_folder.specs.Origins.{Origin}
use Rattle.store_folder.specs.States.{IsState, started}
use Rattle.store_folder.specs.Writing.{AreLike, IsLike}

-- At these places lie these parts. A place that is found for a block is that of a part that fits
-- the block; and the next ones are found behind it, so that none is found twice. Of no more blocks
-- than there are.
abbrev pub AreFound : (BlockPart → BlockPart → Type 0) → List Place → List BlockPart
    → List (Option Place) → List BlockPart → Type 0
AreFound Fits held parts [] blocks = Unit {0}
AreFound Fits held parts (x ∷ found) [] = ⊥
AreFound Fits held parts (None ∷ found) (b ∷ blocks) = AreFound Fits held parts found blocks
AreFound Fits held parts (Some p ∷ found) (b ∷ blocks) =
    (i : ℕ) × (slice_get held i ≡ Some p)
    × ((part : BlockPart) × (slice_get parts i ≡ Some part) × Fits b part)
    × AreFound Fits (drop (i + 1) held) (drop (i + 1) parts) found blocks

-- The place, if it is one, is that of one of the blocks, from an index on, that is the same as a
-- block, and the next index is behind it; else that is the same index.
abbrev pub IsFoundFrom : List Place → List Shown → Shown → ℕ → Option Place → ℕ → Type 0
IsFoundFrom places blocks block from None next = next ≡ from
IsFoundFrom places blocks block from (Some p) next =
    (i : ℕ) × (from ≤ i) × (slice_get places i ≡ Some p) × (slice_get blocks i ≡ Some block)
    × (next ≡ i + 1)

-- each place that is found is one of these; and the next ones are found behind it
abbrev pub AreOf : List Place → List (Option Place) → Type 0
AreOf held [] = Unit {0}
AreOf held (None ∷ found) = AreOf held found
AreOf held (Some p ∷ found) =
    (i : ℕ) × (slice_get held i ≡ Some p) × AreOf (drop (i + 1) held) found

-- The events before are held, behind a head that names blocks at these places; the snapshot has the
-- world of the events after it; and each of its blocks for which one of these places is found is
-- like the block there.
pub record MaySave {F : Type 0} (shows : F → List ℕ → Option (List ℕ) → Type 0)
    (kept : F → List ℕ → ℕ → Type 0) (sound : F → Bool) (moment : F → ℕ)
    (left_since : F → ℕ → Left → Type 0) (first : Origin) (m : JournalFile F) (len : ℕ)
    (closed : Bool) (events after : List Event) (s : SnapshotParts) (held : List Place)
    (parts : List BlockPart) (found : List (Option Place)) : Type 0 where
  pub holds : HoldsAt shows kept sound moment left_since first m len closed events held parts
  pub world : replayed first.world after ≡ Ok (world_of s)
  pub like : AreFound IsLike held parts found s.blocks

-- the number is above those of the folders of these places, unless there is none above it
abbrev pub IsAbove : ℕ → List Place → Type 0
IsAbove n places =
    AllByRecursion (λ (p : Place). (p.0 < n) ⊎ (18446744073709551615 ≤ n)) places

-- the folders of these places have lower numbers
abbrev pub AreBelow : ℕ → List Place → Type 0
AreBelow n places = AllByRecursion (λ (p : Place). p.0 < n) places

-- what is left is the store of this head, these blocks and these events after the head; or it is
-- that of what is saved of the snapshot, with blocks like its own at some places, and no events,
-- which may be a snapshot
abbrev pub IsOldOrSaved : Saved → List BlockPart → List Event → Values → SnapshotParts → Left
    → Type 0
IsOldOrSaved saved parts events values s left =
    IsState saved parts events left
    ⊎ ((places : List Place) × (made : List BlockPart) × AreLike s.blocks made
    × IsState (save values s places) made [] left
    × MayStand (started (save values s places) made))
