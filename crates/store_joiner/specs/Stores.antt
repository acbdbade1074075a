-- A store that lies in a folder, and what is left of it while it is changed.
use Rattle.std.specs.Prelude.{◌≡◌, ◌⊎◌, ◌+◌, ◌++◌, ℕ, ℤ, true, List, [], Option, None, Ok, codes}
use Rattle.std.specs.Prelude.{length}
use Rattle.block_folder.specs.declared.values.Values.{Values}
use Rattle.block_folder.specs.declared.values.Values.TheVariants.{Whole}
use Rattle.data_folder.specs.Folders.{HasFile, KeepsOthers, Left, LeavesOnly, Untouched}
use Rattle.data_folder.specs.JournalFile.{journal_name, next_name}
use Rattle.head.specs.Heads.{BlockPart}
use Rattle.head.specs.Resuming.{MayStand}
use Rattle.head.specs.Worlds.{Event, World, replayed}
use Rattle.head_record.specs.Saved.{Place, Saved}
use Rattle.store_folder.specs.Holding.{AreAt}
use Rattle.store_folder.specs.Journals.{IsJournalOf}
use Rattle.store_folder.specs.Origins.{Origin, beginning}
use Rattle.store_folder.specs.Plain.{AreAdmitted, HasEither, StandsAlone}
use Rattle.store_folder.specs.Rolls.{HasHeadAlone}
use Rattle.store_folder.specs.States.{IsAfter, MayStart, StandsFor, origin_of, started}
use Rattle.store_folder.specs.Sweeps.{has_number}
use Rattle.store_folder.specs.Writing.{EachSays}
use Rattle.store_folder.specs.declared.error.StartError.TheVariants.{Medium}
use Rattle.store_joiner.specs.Adds.{with_beneath}
use Rattle.store_joiner.specs.Finds.{Finds}
use Rattle.store_joiner.specs.Joins.{AreAbove, AreNumbered, AreRolled, with_blocks}
use Rattle.store_joiner.specs.declared.error.ChangeFault.{ChangeFault}
use Rattle.store_joiner.specs.declared.error.ChangeFault.TheVariants as faults

-- in the folder lies, for good, the store of this head, these blocks, and these events after the
-- head
pub record HasStore {F : Type 0} (shows : F → List ℕ → Option (List ℕ) → Type 0)
    (kept : F → List ℕ → ℕ → Type 0) (saved : Saved) (parts : List BlockPart)
    (events : List Event) (f : F) : Type 0 where
  pub file : List ℕ
  pub has : HasFile shows kept journal_name file f
  pub journal : IsJournalOf file saved events
  pub blocks : AreAt shows kept saved.places parts f

-- in the folder lies, for good, a store that stands for these events since it began
pub record HasStoreFor {F : Type 0} (shows : F → List ℕ → Option (List ℕ) → Type 0)
    (kept : F → List ℕ → ℕ → Type 0) (first : Origin) (events : List Event) (f : F)
    : Type 0 where
  pub saved : Saved
  pub parts : List BlockPart
  pub early : List Event
  pub late : List Event
  pub all : events ≡ early ++ late
  pub begins : IsAfter first early saved parts
  pub store : HasStore shows kept saved parts late f

-- What is left stands for these events; or they are accepted, and a start finds a world that is so
-- to the world that they make, in which the values mean what they meant.
abbrev pub StandsOrFinds : Origin → List Event → (World → World → Type 0) → Left → Type 0
StandsOrFinds first events P left =
    StandsFor first events left
    ⊎ ((w : World) × (replayed first.world events ≡ Ok w) × Finds first.values (P w) left)

-- a crash at any moment since old leaves that
abbrev pub StaysOrFinds : {F : Type 0} → (F → ℕ) → (F → ℕ → Left → Type 0) → F → F → Origin
    → List Event → (World → World → Type 0) → Type 0
StaysOrFinds moment left_since old new first events P =
    LeavesOnly moment left_since old new (StandsOrFinds first events P)

-- From old to new the store that lies in the folder was changed: it was opened, before which
-- nothing was changed; and a crash since then leaves what stands for its events, or a store of a
-- world that is so to theirs. If its head and blocks may be a snapshot, so may those that are left.
pub record Changes {F : Type 0} (shows : F → List ℕ → Option (List ℕ) → Type 0)
    (kept : F → List ℕ → ℕ → Type 0) (moment : F → ℕ) (left_since : F → ℕ → Left → Type 0)
    (P : Origin → World → World → Type 0) (old new : F) : Type 0 where
  pub opened : F
  pub saved : Saved
  pub parts : List BlockPart
  pub events : List Event
  pub untouched : Untouched shows kept moment left_since old opened
  pub store : HasStore shows kept saved parts events opened
  pub stays : StaysOrFinds moment left_since opened new (origin_of saved parts) events
      (P (origin_of saved parts))
  pub starts : MayStand (started saved parts) → LeavesOnly moment left_since opened new MayStart

-- nothing was changed, or the store that lies in the folder was
abbrev pub MayChange : {F : Type 0} → (F → List ℕ → Option (List ℕ) → Type 0)
    → (F → List ℕ → ℕ → Type 0) → (F → ℕ) → (F → ℕ → Left → Type 0)
    → (Origin → World → World → Type 0) → F → F → Type 0
MayChange shows kept moment left_since P old new =
    Untouched shows kept moment left_since old new
    ⊎ Changes shows kept moment left_since P old new

-- What is left has the journal of events alone as it was, or with a head in front of them; or it
-- stands for these events, or is a store of a world that is so to theirs.
abbrev pub PlainOrFinds : List ℕ → (World → World → Type 0) → Left → Type 0
PlainOrFinds file P left =
    HasEither file left
    ⊎ ((events : List Event) × StandsAlone file events
    × StandsOrFinds (beginning Whole) events P left)

-- What is left has the journal of events alone as it was, or with a head in front of them; or no
-- start refuses the head and the blocks that are left.
abbrev pub PlainOrStarts : List ℕ → Left → Type 0
PlainOrStarts file left = HasEither file left ⊎ MayStart left

-- Nothing was changed; or this file stands for events alone, which are accepted; or the folder
-- failed as the store was opened, and all files stay but the journal and one in the making.
abbrev pub MayChangePlain : {F : Type 0} → (F → List ℕ → Option (List ℕ) → Type 0)
    → (F → List ℕ → ℕ → Type 0) → (F → ℕ) → (F → ℕ → Left → Type 0) → List ℕ → ChangeFault
    → F → F → Type 0
MayChangePlain shows kept moment left_since file fault old new =
    Untouched shows kept moment left_since old new
    ⊎ (((events : List Event) × StandsAlone file events × AreAdmitted events)
    ⊎ ((fault ≡ faults.Open Medium) × KeepsOthers shows kept next_name journal_name old new))

-- what is left has no journal, or is a store that has nothing
abbrev pub NoneOrStands : Left → Type 0
NoneOrStands left = (left journal_name ≡ None) ⊎ StandsFor (beginning Whole) [] left

-- what is left has no journal, or is a store that has nothing, or one of a world that is so to it
abbrev pub NoneOrFinds : (World → World → Type 0) → Left → Type 0
NoneOrFinds P left = (left journal_name ≡ None) ⊎ StandsOrFinds (beginning Whole) [] P left

-- whenever nothing was changed, some name of a number is listed in the folder of blocks
abbrev pub HasBlocks : {F : Type 0} → (F → List ℕ → Option (List ℕ) → Type 0)
    → (F → List ℕ → List (List ℕ) → Type 0) → (F → List ℕ → ℕ → Type 0) → (F → ℕ)
    → (F → ℕ → Left → Type 0) → F → Type 0
HasBlocks {F} shows lists kept moment left_since old =
    (f : F) (names : List (List ℕ)) → Untouched shows kept moment left_since old f
    → lists f (codes "blocks") names → has_number names ≡ true

-- a crash now leaves what has P
abbrev pub LeavesNow : {F : Type 0} → (F → ℕ) → (F → ℕ → Left → Type 0) → F → (Left → Type 0)
    → Type 0
LeavesNow moment left_since f P = (left : Left) → left_since f (moment f) left → P left

-- the same world
abbrev pub IsSame : World → World → Type 0
IsSame w v = v ≡ w

-- a crash now leaves what stands for these events, or a store of their world and meaning
abbrev pub StaysNow : {F : Type 0} → (F → ℕ) → (F → ℕ → Left → Type 0) → F → Origin
    → List Event → Type 0
StaysNow moment left_since f first events =
    LeavesNow moment left_since f (StandsOrFinds first events IsSame)

-- in the folder lies, for good, a journal that is exactly the file of this head, and its blocks
abbrev pub HasSaved : {F : Type 0} → (F → List ℕ → Option (List ℕ) → Type 0)
    → (F → List ℕ → ℕ → Type 0) → Saved → List BlockPart → F → Type 0
HasSaved shows kept saved parts f =
    HasHeadAlone shows kept saved f × AreAt shows kept saved.places parts f

-- In the folder lies, for good, a journal that is exactly the file of a head, and so many blocks
-- that the head names: at the other places, or at some of those, and in folders of the least
-- numbers that are above them all.
pub record StaysNumbered {F : Type 0} (shows : F → List ℕ → Option (List ℕ) → Type 0)
    (kept : F → List ℕ → ℕ → Type 0) (others : List Place) (count : ℕ) (f : F) : Type 0 where
  pub saved : Saved
  pub parts : List BlockPart
  pub lies : HasSaved shows kept saved parts f
  pub begins : (saved.places ≡ others) ⊎ AreRolled others saved.places
  pub many : length saved.places ≡ count

-- In the folder lies, for good, a journal that is exactly the file of a head, with nothing behind
-- it. The head names blocks at these places and says this meaning of values; and so does the
-- `meta.json` of each of them. The blocks lie there, and a start makes a snapshot of the head and
-- the blocks.
pub record SaysMeaning {F : Type 0} (shows : F → List ℕ → Option (List ℕ) → Type 0)
    (kept : F → List ℕ → ℕ → Type 0) (values : Values) (places : List Place) (f : F)
    : Type 0 where
  pub saved : Saved
  pub alone : HasHeadAlone shows kept saved f
  pub means : saved.values ≡ values
  pub names : saved.places ≡ places
  pub says : EachSays shows kept values places f
  pub parts : List BlockPart
  pub blocks : AreAt shows kept saved.places parts f
  pub stands : MayStand (started saved parts)

-- so of some meaning
abbrev pub SaysOne : {F : Type 0} → (F → List ℕ → Option (List ℕ) → Type 0)
    → (F → List ℕ → ℕ → Type 0) → F → Type 0
SaysOne shows kept f =
    (values : Values) × (places : List Place) × SaysMeaning shows kept values places f

-- so, of blocks above those at these places
abbrev pub SaysAbove : {F : Type 0} → (F → List ℕ → Option (List ℕ) → Type 0)
    → (F → List ℕ → ℕ → Type 0) → List Place → F → Type 0
SaysAbove shows kept held f =
    (values : Values) × (places : List Place) × AreAbove held places
    × SaysMeaning shows kept values places f

-- so, of blocks that are written anew for a store, whose blocks lay at these places
abbrev pub SaysNumbered : {F : Type 0} → (F → List ℕ → Option (List ℕ) → Type 0)
    → (F → List ℕ → ℕ → Type 0) → List Place → ℕ → F → Type 0
SaysNumbered shows kept others count f =
    (values : Values) × (places : List Place) × AreNumbered others count places
    × SaysMeaning shows kept values places f

-- so, where so many blocks are told of, of which so many were added
abbrev pub SaysAdded : {F : Type 0} → (F → List ℕ → Option (List ℕ) → Type 0)
    → (F → List ℕ → ℕ → Type 0) → List Place → ℕ → ℕ → F → Type 0
SaysAdded shows kept others added told f =
    (count : ℕ) × (told ≡ added + count) × SaysNumbered shows kept others count f

-- the same world, in some number of blocks
abbrev pub IsJoinedTo : World → World → Type 0
IsJoinedTo w v = v ≡ with_blocks v.blocks w

-- wherever the store began
abbrev pub IsJoinedHere : Origin → World → World → Type 0
IsJoinedHere first w v = IsJoinedTo w v

-- the same world; or, if the values of both mean the same, the one laid over these blocks
abbrev pub IsAddedTo : Values → List BlockPart → ℤ → Origin → World → World → Type 0
IsAddedTo values blocks floor first w v =
    (v ≡ w) ⊎ ((first.values ≡ values) × (v ≡ with_beneath blocks floor w))

-- a fault after the store of a folder was opened
abbrev pub IsLater : ChangeFault → Type 0
IsLater faults.NoStore = ⊥
IsLater (faults.Open e) = ⊥
IsLater (faults.Resume e) = Unit {0}
IsLater (faults.Begin e) = Unit {0}
IsLater (faults.Roll e) = Unit {0}
IsLater (faults.Again e) = Unit {0}
IsLater faults.Changed = Unit {0}
IsLater faults.Meaning = Unit {0}
IsLater (faults.Unfit e n) = Unit {0}
