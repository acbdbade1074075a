-- Why a store is not read.
use Rattle.std.specs.Prelude.{◌≡◌, ◌⊎◌, ⊤, ℕ, Bool, true, List, ◌∷◌, ◌++◌, map, Option, None, Some}
use Rattle.std.specs.Prelude.{Result, Ok, Err, Vec, codes}
use Rattle.std.specs.declared.alloc.Global.{Global}
use Rattle.block.specs.declared.error.BlockError.TheVariants.{Memory as NoMemory}
use Rattle.block.specs.Blocks.{Shown}
use Rattle.block.specs.Outcome.{Fails}
use Rattle.data_folder.specs.Folders.{HasFile}
use Rattle.data_folder.specs.JournalFile.{journal_name}
use Rattle.data_folder.specs.States.{AreThere}
use Rattle.head.specs.Blocks.{part_in}
use Rattle.head.specs.Heads.{BlockPart}
use Rattle.head.specs.Worlds.{Event}
use Rattle.head_record.specs.Saved.{Place, Saved}
use Rattle.store_folder.specs.declared.error.BlockFault.{BlockFault}
use Rattle.store_folder.specs.declared.error.BlockFault.TheVariants as faults
use Rattle.store_folder.specs.declared.error.StartError.{StartError}
use Rattle.store_folder.specs.declared.error.StartError.TheVariants as errors
use Rattle.store_folder.specs.declared.error.UnreadBlock.{UnreadBlock}
use Rattle.store_folder.specs.declared.reading.FoundStore.{FoundStore}
use Rattle.store_folder.specs.Blocks.{BlockFiles, name_in, named_files, shown_of}
use Rattle.store_folder.specs.Journals.{DeniesJournal, IsJournalOf, MayRefuseJournal}

-- a file is not read so
abbrev pub DeniesName : {F : Type 0} → (F → List ℕ → Option (List ℕ) → Type 0) → (F → Bool) → F
    → List ℕ → BlockFault → Type 0
DeniesName shows failed f name faults.Memory = ⊤
DeniesName shows failed f name faults.Medium = failed f ≡ true
DeniesName shows failed f name faults.Missing = shows f name None
DeniesName shows failed f name (faults.Refused e) = ⊥

-- one of the files of the block at a place is not there
abbrev pub LacksOne : {F : Type 0} → (F → List ℕ → Option (List ℕ) → Type 0) → F → Place → Type 0
LacksOne shows f p =
    shows f (name_in p.0 (codes "meta.json")) None
    ⊎ (shows f (name_in p.0 (codes "index")) None
    ⊎ (shows f (name_in p.0 (codes "chunks/000001")) None
    ⊎ shows f (name_in p.0 (codes "tombstones")) None))

-- the files of the block at a place are not read so
abbrev pub DeniesFiles : {F : Type 0} → (F → List ℕ → Option (List ℕ) → Type 0) → (F → Bool) → F
    → Place → BlockFault → Type 0
DeniesFiles shows failed f p faults.Memory = ⊤
DeniesFiles shows failed f p faults.Medium = failed f ≡ true
DeniesFiles shows failed f p faults.Missing = LacksOne shows f p
DeniesFiles shows failed f p (faults.Refused e) = ⊥

-- the block at a place is not read so
abbrev pub DeniesBlock : {F : Type 0} → (F → List ℕ → Option (List ℕ) → Type 0)
    → (F → List ℕ → ℕ → Type 0) → (F → Bool) → F → Place → BlockFault → Type 0
DeniesBlock shows kept failed f p faults.Memory = ⊤
DeniesBlock shows kept failed f p faults.Medium = failed f ≡ true
DeniesBlock shows kept failed f p faults.Missing = LacksOne shows f p
DeniesBlock shows kept failed f p (faults.Refused e) =
    (files : BlockFiles) × AreThere shows kept (named_files p files) f × Fails e (shown_of files)

-- the block at one of these places is not read so
pub record DeniesOne {F : Type 0} (shows : F → List ℕ → Option (List ℕ) → Type 0)
    (kept : F → List ℕ → ℕ → Type 0) (failed : F → Bool) (f : F) (places : List Place)
    (e : UnreadBlock) : Type 0 where
  pub before : List Place
  pub place : Place
  pub after : List Place
  pub parts : places ≡ before ++ place ∷ after
  pub number : e.number ≡ place.0
  pub refused : DeniesBlock shows kept failed f place e.fault

-- A folder is not read as a store so: reading failed, or the journal is refused, or it is one, and
-- a block that its head names is not read.
abbrev pub DeniesStore : {F : Type 0} → (F → List ℕ → Option (List ℕ) → Type 0)
    → (F → List ℕ → ℕ → Type 0) → (F → Bool) → F → StartError → Type 0
DeniesStore shows kept failed f errors.Medium = failed f ≡ true
DeniesStore shows kept failed f (errors.Journal e) =
    (file : List ℕ) × HasFile shows kept journal_name file f × DeniesJournal file e
DeniesStore shows kept failed f (errors.Block e) =
    (file : List ℕ) × (saved : Saved) × (events : List Event)
    × HasFile shows kept journal_name file f × IsJournalOf file saved events
    × DeniesOne shows kept failed f saved.places e
DeniesStore shows kept failed f (errors.Head e) = ⊥
DeniesStore shows kept failed f (errors.Event refused) = ⊥

-- A folder that tells what its files have: a name has one thing.
abbrev pub TellsFiles : {F : Type 0} → (F → List ℕ → Option (List ℕ) → Type 0) → Type 0
TellsFiles {F} shows =
    (f : F) (name : List ℕ) (x y : Option (List ℕ)) → shows f name x → shows f name y → x ≡ y

-- a refusal that can come of a block whose files lie there: memory's, or that of reading
abbrev pub MayFail : Bool → BlockFault → Type 0
MayFail failed faults.Memory = ⊤
MayFail failed faults.Medium = failed ≡ true
MayFail failed faults.Missing = ⊥
MayFail failed (faults.Refused e) = e ≡ NoMemory

-- the answer is this block, or such a refusal
abbrev pub GivesBlockAt : Bool → BlockPart → Result Shown BlockFault → Type 0
GivesBlockAt failed part (Ok b) = part_in b ≡ part
GivesBlockAt failed part (Err e) = MayFail failed e

abbrev pub GivesBlocks : Bool → List BlockPart → Result (Vec Shown Global) UnreadBlock → Type 0
GivesBlocks failed parts (Ok bs) = map part_in bs.items ≡ parts
GivesBlocks failed parts (Err e) = MayFail failed e.fault

-- a refusal that can come of a store of these events that lies there: memory's, that of reading, or
-- that of a deletion's matcher
abbrev pub MayFailStart : Bool → List Event → StartError → Type 0
MayFailStart failed events errors.Medium = failed ≡ true
MayFailStart failed events (errors.Journal e) = MayRefuseJournal events e
MayFailStart failed events (errors.Block e) = MayFail failed e.fault
MayFailStart failed events (errors.Head e) = ⊥
MayFailStart failed events (errors.Event refused) = ⊥

-- the answer has this journal and these blocks
pub record IsStoreOf (saved : Saved) (parts : List BlockPart) (late : List Event)
    (s : FoundStore) : Type 0 where
  pub head : s.journal.head ≡ saved
  pub events : s.journal.events.items ≡ late
  pub blocks : map part_in s.blocks.items ≡ parts

-- the answer is this store, or such a refusal
abbrev pub GivesFound : Bool → Saved → List BlockPart → List Event → Result FoundStore StartError
    → Type 0
GivesFound failed saved parts events (Ok s) = IsStoreOf saved parts events s
GivesFound failed saved parts events (Err e) = MayFailStart failed events e

abbrev pub GivesStore : Bool → Saved → List BlockPart → List Event
    → Result (Option FoundStore) StartError → Type 0
GivesStore failed saved parts events (Ok None) = ⊥
GivesStore failed saved parts events (Ok (Some s)) = IsStoreOf saved parts events s
GivesStore failed saved parts events (Err e) = MayFailStart failed events e
