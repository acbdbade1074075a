-- What a start answers, and what a crash leaves meanwhile.
use Rattle.std.specs.Prelude.{◌≡◌, ◌==◌, ◌⊎◌, ◌&&◌, ◌||◌, ℕ, Bool, false, not, nat_lt, List, []}
use Rattle.std.specs.Prelude.{◌∷◌}
use Rattle.std.specs.Prelude.{Option, None, Ok, length}
use Rattle.block_folder.specs.declared.values.Values.{Values}
use Rattle.block_folder.specs.declared.values.Values.TheVariants.{Whole}
use Rattle.data_folder.specs.declared.journal_file.JournalFile.{JournalFile}
use Rattle.data_folder.specs.Folders.{Left, LeavesOnly}
use Rattle.data_folder.specs.JournalFile.{journal_name}
use Rattle.head.specs.declared.error.RefusedEvent.{RefusedEvent}
use Rattle.head.specs.Heads.{BlockPart, SnapshotParts, world_of}
use Rattle.head.specs.Replaying.{RefusesAt}
use Rattle.head.specs.Resuming.{Denies, MayStand}
use Rattle.head.specs.Kept.{KeepsBlocks}
use Rattle.head.specs.Worlds.{Event, World, replayed, stepped}
use Rattle.head_record.specs.Saved.{Place, Saved}
use Rattle.labels.specs.declared.sample.TheConstants.{MIN_TIME}
use Rattle.store_folder.specs.declared.error.StartCause.TheVariants.{Refused}
use Rattle.store_folder.specs.declared.error.StartError.{StartError}
use Rattle.store_folder.specs.declared.error.StartError.TheVariants as errors
use Rattle.store_folder.specs.Codes.{cause_of}
use Rattle.store_folder.specs.Holding.{HoldsLike}
use Rattle.store_folder.specs.Kinds.{has_cut}
use Rattle.store_folder.specs.Origins.{Origin}
use Rattle.store_folder.specs.States.{IsState, StandsFor, StandsForEither, started}

-- why a snapshot is not made of a head, its blocks and the events after it
abbrev pub DeniesStart : Saved → List BlockPart → List Event → StartError → Type 0
DeniesStart saved parts events errors.Medium = ⊥
DeniesStart saved parts events (errors.Journal e) = ⊥
DeniesStart saved parts events (errors.Block e) = ⊥
DeniesStart saved parts events (errors.Head e) = Denies e (MayStand (started saved parts))
DeniesStart saved parts events (errors.Event refused) =
    RefusesAt (world_of (started saved parts)) events refused.at refused.error

-- an event of these is refused so
pub record IsRefusedEvent (w : World) (events : List Event) (e : StartError) : Type 0 where
  pub refused : RefusedEvent
  pub is : e ≡ errors.Event refused
  pub there : RefusesAt w events refused.at refused.error

-- the error tells no fault of what the folder has: memory or the folder failed
abbrev pub IsNoRefusal : StartError → Type 0
IsNoRefusal e = cause_of e ≡ Refused → ⊥

-- The events, one after another, take the snapshot to the other one: each is accepted, and the next
-- snapshot has the world that it makes, and the blocks that it leaves.
abbrev pub LeadTo : SnapshotParts → List Event → SnapshotParts → Type 0
LeadTo s [] t = t ≡ s
LeadTo s (event ∷ events) t =
    (next : SnapshotParts) × (stepped (world_of s) event ≡ Ok (world_of next))
    × KeepsBlocks event s next.blocks × LeadTo next events t

-- A store goes on: these events since the first world make the snapshot, and they are held, after a
-- head that names blocks like these at these places.
pub record GoesOn {F : Type 0} (shows : F → List ℕ → Option (List ℕ) → Type 0)
    (kept : F → List ℕ → ℕ → Type 0) (sound : F → Bool) (moment : F → ℕ)
    (left_since : F → ℕ → Left → Type 0) (first : Origin) (m : JournalFile F) (len : ℕ)
    (closed : Bool) (events : List Event) (places : List Place) (blocks : List BlockPart)
    (s : SnapshotParts) : Type 0 where
  pub world : replayed first.world events ≡ Ok (world_of s)
  pub holds : HoldsLike shows kept sound moment left_since first m len closed events places blocks
  pub is_open : closed ≡ false

-- whether it is worth saving what these events make, which stand in a journal of so many bytes:
-- there are some, and one of them is a cut or the journal has more bytes than this
abbrev pub is_due : List Event → ℕ → ℕ → Bool
is_due events len most =
    not (length events == 0) && (nat_lt most len || has_cut events)

-- After a crash at any moment since old, a start finds exactly these events: what is left stands
-- for them.
abbrev pub StartFinds : {F : Type 0} → (F → ℕ) → (F → ℕ → Left → Type 0) → F → F → Origin
    → List Event → Type 0
StartFinds moment left_since old new first events =
    LeavesOnly moment left_since old new (StandsFor first events)

-- it finds exactly these events or exactly those
abbrev pub StartFindsEither : {F : Type 0} → (F → ℕ) → (F → ℕ → Left → Type 0) → F → F → Origin
    → List Event → List Event → Type 0
StartFindsEither moment left_since old new first events after =
    LeavesOnly moment left_since old new (StandsForEither first events after)

-- what is saved of a store that has nothing, whose values mean this
abbrev pub nothing_with : Values → Saved
nothing_with values = record { values = values; floor = MIN_TIME; places = []; head = [] }

-- and if they are whole numbers
abbrev pub nothing_saved : Saved
nothing_saved = nothing_with Whole

-- what a crash leaves while a store is begun whose values mean this: no journal, or that of a store
-- that has nothing
abbrev pub IsNoneOrNothing : Values → Left → Type 0
IsNoneOrNothing values left =
    (left journal_name ≡ None) ⊎ IsState (nothing_with values) [] [] left
