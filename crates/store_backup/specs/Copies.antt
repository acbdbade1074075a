-- A store that is copied into another folder.
use Rattle.std.specs.Prelude.{◌≡◌, ◌⊎◌, ℕ, List, Option, None, Ok, length}
use Rattle.data_folder.specs.Folders.{Left, LeavesOnly, Untouched}
use Rattle.data_folder.specs.JournalFile.{journal_name}
use Rattle.data_folder.specs.States.{HasStore as HasFilesOf, Named}
use Rattle.data_folder.specs.Sweeping.{KeepsForeign}
use Rattle.head.specs.Heads.{BlockPart}
use Rattle.head.specs.Worlds.{Event, World, replayed}
use Rattle.head_record.specs.Saved.{Saved}
use Rattle.store_folder.specs.Origins.{Origin}
use Rattle.store_folder.specs.Starting.{DeniesStart}
use Rattle.store_folder.specs.States.{MayStart, origin_of}
use Rattle.store_folder.specs.Writing.{places_from}
use Rattle.store_folder.specs.declared.error.RollFault.{RollFault}
use Rattle.store_folder.specs.declared.error.StartError.{StartError}
use Rattle.store_joiner.specs.Finds.{Finds, FindsNow, other_of}
use Rattle.store_joiner.specs.Stores.{SaysMeaning}
use Rattle.store_backup.specs.declared.copying.Copied.{Copied}
use Rattle.store_backup.specs.declared.error.CopyFault.{CopyFault}
use Rattle.store_backup.specs.declared.error.CopyFault.TheVariants as faults
use Rattle.store_backup.specs.Reading.{IsRead}

-- what is left has no journal, or one of these contents and these files
abbrev pub NoneOrWhole : List Named → List (List ℕ) → Left → Type 0
NoneOrWhole files contents left = (left journal_name ≡ None) ⊎ HasFilesOf files contents left

-- what is left has no journal, or one without events; a start finds this world in it, in which the
-- values mean this, and does not refuse the head and the blocks
abbrev pub NoneOrCopy : Origin → Left → Type 0
NoneOrCopy first left =
    (left journal_name ≡ None)
    ⊎ (Finds first.values (λ (v : World). v ≡ first.world) left × MayStart left)

-- From old to new the store of this world was begun in a folder without a journal: a crash at any
-- moment leaves none, or the store. What is none of the store's stays.
pub record Begins {F : Type 0} (shows : F → List ℕ → Option (List ℕ) → Type 0)
    (kept : F → List ℕ → ℕ → Type 0) (moment : F → ℕ)
    (left_since : F → ℕ → Left → Type 0) (first : Origin) (old new : F) : Type 0 where
  pub any_moment : shows old journal_name None → kept old journal_name 0
      → LeavesOnly moment left_since old new (NoneOrCopy first)
  pub foreign : KeepsForeign shows kept old new

-- these events of a store are accepted, and this is the world that they make
abbrev pub Make : Saved → List BlockPart → List Event → World → Type 0
Make saved parts events w = replayed (origin_of saved parts).world events ≡ Ok w

-- where the copy of a store begins: its world, in which the values mean what they meant
abbrev pub copy_of : Saved → List BlockPart → World → Origin
copy_of saved parts w = other_of (origin_of saved parts) w

-- The store of this head, these blocks and these events was copied from old to new: the events are
-- accepted, and a start finds their world, in which the values mean what they meant, as the head
-- and each block say. What is told is how many events there are, and how many blocks their world
-- has. These lie in folders of the numbers from 1 on.
pub record IsCopied {F : Type 0} (shows : F → List ℕ → Option (List ℕ) → Type 0)
    (kept : F → List ℕ → ℕ → Type 0) (moment : F → ℕ)
    (left_since : F → ℕ → Left → Type 0) (saved : Saved) (parts : List BlockPart)
    (late : List Event) (told : Copied) (old new : F) : Type 0 where
  pub world : World
  pub accepted : Make saved parts late world
  pub finds : FindsNow moment left_since new (copy_of saved parts world)
  pub events : told.events ≡ length late
  pub blocks : told.blocks ≡ world.blocks
  pub begins : Begins shows kept moment left_since (copy_of saved parts world) old new
  pub says : SaysMeaning shows kept saved.values (places_from 1 told.blocks) new

-- The store was not copied: nothing was changed; or its events are accepted, and the store of their
-- world was to be begun.
abbrev pub MayBegin : {F : Type 0} → (F → List ℕ → Option (List ℕ) → Type 0)
    → (F → List ℕ → ℕ → Type 0) → (F → ℕ) → (F → ℕ → Left → Type 0) → Saved
    → List BlockPart → List Event → F → F → Type 0
MayBegin shows kept moment left_since saved parts events old new =
    Untouched shows kept moment left_since old new
    ⊎ ((w : World) × Make saved parts events w
    × Begins shows kept moment left_since (copy_of saved parts w) old new)

-- the target has a journal, or a block without one
abbrev pub IsTaken : CopyFault → Type 0
IsTaken fault = (fault ≡ faults.Taken) ⊎ (fault ≡ faults.Blocks)

-- the copy was not written, or the target failed
abbrev pub IsOfTarget : CopyFault → Type 0
IsOfTarget fault =
    (fault ≡ faults.Target) ⊎ ((cause : RollFault) × (fault ≡ faults.Write cause))

-- a store that was read is refused: its head and blocks, or its events
abbrev pub DeniesRead : {F : Type 0} → (F → List ℕ → Option (List ℕ) → Type 0)
    → (F → List ℕ → ℕ → Type 0) → F → F → CopyFault → Type 0
DeniesRead shows kept old new fault =
    (saved : Saved) × (parts : List BlockPart) × (events : List Event)
    × IsRead shows kept saved parts events old new
    × ((e : StartError) × (fault ≡ faults.Source e) × DeniesStart saved parts events e)

-- this tells of the events of some store, which are accepted, and of their world
abbrev pub TellsSome : Copied → Type 0
TellsSome told =
    (saved : Saved) × (parts : List BlockPart) × (events : List Event) × (w : World)
    × Make saved parts events w × (told.events ≡ length events) × (told.blocks ≡ w.blocks)
