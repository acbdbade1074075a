-- When what lies in a folder is a store.
use Rattle.std.specs.Prelude.{◌≡◌, ◌⊎◌, ℕ, List, [], ◌∷◌, ◌++◌, Ok, Some}
use Rattle.wire.specs.Spelling.{IsBytes}
use Rattle.block_folder.specs.declared.values.Values.{Values}
use Rattle.data_folder.specs.Folders.{Left}
use Rattle.data_folder.specs.States.{HasFiles, HasJournal}
use Rattle.event_journal.specs.Naming.{Spell}
use Rattle.head.specs.Heads.{BlockPart, SnapshotParts, world_of}
use Rattle.head.specs.Resuming.{MayStand}
use Rattle.head.specs.Worlds.{Event, World, replayed}
use Rattle.head_record.specs.Saved.{Place, Saved}
use Rattle.head_record.specs.Spelling.{head_texts, IsSaved}
use Rattle.keeper.specs.Finding.{FindsWorld}
use Rattle.name_table.specs.Names.{Label}
use Rattle.store_folder.specs.Blocks.{BlockFiles, SpellBlock, named_files}
use Rattle.store_folder.specs.Origins.{Origin}

-- at each place lie the files of the block
abbrev pub LieAt : List Place → List BlockPart → Left → Type 0
LieAt [] [] left = Unit {0}
LieAt [] (b ∷ blocks) left = ⊥
LieAt (p ∷ places) [] left = ⊥
LieAt (p ∷ places) (b ∷ blocks) left =
    ((files : BlockFiles) × SpellBlock files b × HasFiles (named_files p files) left)
    × LieAt places blocks left

-- the snapshot that a head and blocks are
abbrev pub started : Saved → List BlockPart → SnapshotParts
started saved blocks = record {
  blocks = blocks;
  head = saved.head;
  floor = saved.floor;
  copied = 0;
}

-- a journal of these contents, and then of such as spell these events
pub record HasKept (front : List (List ℕ)) (events : List Event) (left : Left) : Type 0 where
  pub contents : List (List ℕ)
  pub names : List Label
  pub spell : Spell contents events names
  pub journal : HasJournal (front ++ contents) left

-- what is left of a folder is a store: a journal of a head and events, and the files of each block
-- that the head names
pub record IsState (saved : Saved) (parts : List BlockPart) (events : List Event) (left : Left)
    : Type 0 where
  pub head : IsSaved saved
  pub kept : HasKept (head_texts saved) events left
  pub blocks : LieAt saved.places parts left

-- and this is its world
abbrev pub HasWorld : Saved → List BlockPart → List Event → World → Type 0
HasWorld saved blocks events w = replayed (world_of (started saved blocks)) events ≡ Ok w

-- where a store with this head and these blocks begins
abbrev pub origin_of : Saved → List BlockPart → Origin
origin_of saved blocks = record {
  world = world_of (started saved blocks);
  values = saved.values;
}

-- The head says the world of these events since the first world, and what the values mean since
-- then.
pub record IsAfter (first : Origin) (events : List Event) (saved : Saved)
    (parts : List BlockPart) : Type 0 where
  pub world : replayed first.world events ≡ Ok (world_of (started saved parts))
  pub values : saved.values ≡ first.values

-- What is left of a folder stands for these events since the first world: it is a store, the head
-- of its journal says the world of the early ones, and the late ones stand after the head.
pub record StandsFor (first : Origin) (events : List Event) (left : Left) : Type 0 where
  pub saved : Saved
  pub parts : List BlockPart
  pub early : List Event
  pub late : List Event
  pub all : events ≡ early ++ late
  pub begins : IsAfter first early saved parts
  pub state : IsState saved parts late left

-- it stands for these events, or for those
abbrev pub StandsForEither : Origin → List Event → List Event → Left → Type 0
StandsForEither first events after left = StandsFor first events left ⊎ StandsFor first after left

-- files of bytes
abbrev pub AreBytes : Left → Type 0
AreBytes left = (name bytes : List ℕ) → left name ≡ Some bytes → IsBytes bytes

-- what a start that finds this makes of it: a store, and its world
abbrev pub StartsWith : Left → World → Type 0
StartsWith left w =
    AreBytes left
    × ((saved : Saved) × (parts : List BlockPart) × (events : List Event)
    × IsState saved parts events left × HasWorld saved parts events w)

-- if these are files of bytes, a start finds a world in them, and the world has P
abbrev pub FindsOne : (World → Type 0) → Left → Type 0
FindsOne P left = AreBytes left → FindsWorld StartsWith P left

-- if these are files of bytes, a start finds that the values mean this
abbrev pub Means : Values → Left → Type 0
Means values left =
    AreBytes left → (saved : Saved) (parts : List BlockPart) (events : List Event)
    → IsState saved parts events left → saved.values ≡ values

-- if these are files of bytes and a store, no start refuses its head and its blocks: they may be a
-- snapshot
abbrev pub MayStart : Left → Type 0
MayStart left =
    AreBytes left → (saved : Saved) (parts : List BlockPart) (events : List Event)
    → IsState saved parts events left → MayStand (started saved parts)

-- what is left is the store of this head, these blocks and these events after the head; or that of
-- another head and its blocks, and no events
abbrev pub IsEither : Saved → List BlockPart → List Event → Saved → List BlockPart → Left → Type 0
IsEither saved parts events next blocks left =
    IsState saved parts events left ⊎ IsState next blocks [] left
