-- What a start finds of a store that begins with another snapshot.
use Rattle.std.specs.Prelude.{◌≡◌, ◌⊎◌, ℕ, List, [], Some, codes}
use Rattle.std.specs.List.{AllByRecursion}
use Rattle.block_folder.specs.declared.values.Values.{Values}
use Rattle.block_folder.specs.Meanings.{values_said}
use Rattle.data_folder.specs.Folders.{Left, LeavesOnly}
use Rattle.head.specs.Heads.{BlockPart}
use Rattle.head.specs.Worlds.{Event, World}
use Rattle.head_record.specs.Saved.{Place, Saved}
use Rattle.keeper.specs.Finding.{FindsWorld}
use Rattle.store_folder.specs.Blocks.{name_in}
use Rattle.store_folder.specs.Origins.{Origin}
use Rattle.store_folder.specs.States.{AreBytes, HasWorld, IsState, Means}

-- what a start that finds this makes of it: a store whose journal has a head and no events, and its
-- world
abbrev pub StartsAlone : Left → World → Type 0
StartsAlone left w =
    AreBytes left
    × ((saved : Saved) × (parts : List BlockPart) × IsState saved parts [] left
    × HasWorld saved parts [] w)

-- If these are files of bytes, a start finds a world in them that has P, and that the values mean
-- this. The journal has no events, so it has none that a start refuses.
abbrev pub Finds : Values → (World → Type 0) → Left → Type 0
Finds values P left = (AreBytes left → FindsWorld StartsAlone P left) × Means values left

-- a crash at any moment since old leaves a store without events: a start finds this world, or the
-- other; the values mean the same in both
abbrev pub FindsEither : {F : Type 0} → (F → ℕ) → (F → ℕ → Left → Type 0) → F → F → Origin → World
    → Type 0
FindsEither moment left_since old new first other =
    LeavesOnly moment left_since old new
    (Finds first.values (λ (v : World). (v ≡ first.world) ⊎ (v ≡ other)))

-- a crash now leaves a store without events: a start finds this world, and that the values mean
-- this
abbrev pub FindsNow : {F : Type 0} → (F → ℕ) → (F → ℕ → Left → Type 0) → F → Origin → Type 0
FindsNow moment left_since f first =
    (left : Left) → left_since f (moment f) left
    → Finds first.values (λ (v : World). v ≡ first.world) left

-- the `meta.json` of the block at a place is left, and says this meaning
abbrev pub SaysIn : Values → Left → Place → Type 0
SaysIn values left p =
    (meta : List ℕ) × (left (name_in p.0 (codes "meta.json")) ≡ Some meta)
    × (values_said meta ≡ Some values)

-- if these are files of bytes and a store, the `meta.json` of each block that its head names says
-- what the head says of the values
abbrev pub BlocksSay : Left → Type 0
BlocksSay left =
    AreBytes left → (saved : Saved) (parts : List BlockPart) (events : List Event)
    → IsState saved parts events left → AllByRecursion (SaysIn saved.values left) saved.places

-- another world, in which the values mean the same
abbrev pub other_of : Origin → World → Origin
other_of first world = record { world = world; values = first.values }
