-- What is wrong with the folder of a store, whatever folder it is.
use Rattle.std.specs.Prelude.{◌≡◌, ◌⊎◌, ℕ, List, [], ◌∷◌}
use Rattle.std.specs.List.{Contains}
use Rattle.block.specs.Outcome.{Fails}
use Rattle.event_journal.specs.Holding.{Stands}
use Rattle.head.specs.Blocks.{opening_of}
use Rattle.head.specs.Heads.{BlockPart, world_of}
use Rattle.head.specs.Replaying.{RefusesAt}
use Rattle.head.specs.Resuming.{Denies, MayStand}
use Rattle.head.specs.Worlds.{Event}
use Rattle.head_record.specs.Saved.{Place, Saved}
use Rattle.store_folder.specs.declared.error.BlockFault.{BlockFault}
use Rattle.store_folder.specs.declared.error.BlockFault.TheVariants as faults
use Rattle.store_folder.specs.declared.error.StartError.{StartError}
use Rattle.store_folder.specs.declared.error.StartError.TheVariants as errors
use Rattle.store_folder.specs.Blocks.{BlockFiles, SpellBlock, shown_of}
use Rattle.store_folder.specs.Journals.{DeniesJournal, IsJournalOf}
use Rattle.store_folder.specs.Plain.{DeniesPlain}
use Rattle.store_folder.specs.States.{started}

-- the files of a block are refused so: one of them is missing, or they spell none
abbrev pub IsFileFault : BlockFault → Type 0
IsFileFault faults.Memory = ⊥
IsFileFault faults.Medium = ⊥
IsFileFault faults.Missing = Unit {0}
IsFileFault (faults.Refused e) = (files : BlockFiles) × Fails e (shown_of files)

-- one of these places has this number
pub record IsNumberOf (places : List Place) (number : ℕ) : Type 0 where
  pub place : Place
  pub there : Contains places place
  pub is : number ≡ place.0

-- some files spell each of these blocks, one at each place
abbrev pub AreSpelled : List Place → List BlockPart → Type 0
AreSpelled [] [] = Unit {0}
AreSpelled [] (b ∷ parts) = ⊥
AreSpelled (p ∷ places) [] = ⊥
AreSpelled (p ∷ places) (b ∷ parts) =
    ((files : BlockFiles) × SpellBlock files b) × AreSpelled places parts

-- A folder is refused as that of a store so, whatever its files are: its journal is; or it stands
-- for a head and events, and a block that the head names is refused; or the blocks are opened, and
-- no snapshot has them and the head, or the first of the events that is not accepted is refused.
-- A journal of events alone stands for events after the head of a store that has nothing.
abbrev pub IsRefusal : StartError → Type 0
IsRefusal errors.Medium = ⊥
IsRefusal (errors.Journal e) = (file : List ℕ) × (DeniesJournal file e ⊎ DeniesPlain file e)
IsRefusal (errors.Block unread) =
    (file : List ℕ) × (saved : Saved) × (events : List Event) × IsJournalOf file saved events
    × IsNumberOf saved.places unread.number × IsFileFault unread.fault
IsRefusal (errors.Head e) =
    (file : List ℕ) × (saved : Saved) × (events : List Event) × (parts : List BlockPart)
    × IsJournalOf file saved events × AreSpelled saved.places parts
    × Denies e (MayStand (started saved parts))
IsRefusal (errors.Event refused) =
    ((file : List ℕ) × (saved : Saved) × (events : List Event) × (parts : List BlockPart)
    × IsJournalOf file saved events × AreSpelled saved.places parts
    × RefusesAt (world_of (started saved parts)) events refused.at refused.error)
    ⊎ ((file : List ℕ) × (events : List Event) × Stands [] file events
    × RefusesAt (world_of (opening_of [])) events refused.at refused.error)
