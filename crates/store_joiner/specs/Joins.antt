-- A world in so many blocks, and where they lie.
use Rattle.std.specs.Prelude.{◌≡◌, ◌⊎◌, ◌≤◌, ℕ, List, Option, length}
use Rattle.head.specs.Worlds.{World}
use Rattle.head_record.specs.Saved.{Place}
use Rattle.store_folder.specs.Saving.{AreBelow, AreOf, IsAbove}
use Rattle.store_folder.specs.Writing.{places_from, places_with}

-- the same samples, newest samples and floor, in so many blocks
abbrev pub with_blocks : ℕ → World → World
with_blocks n w = record w { blocks = n }

-- the number is the least one, from 1 on, that is above those of the folders of these places
abbrev pub IsFree : ℕ → List Place → Type 0
IsFree n places =
    (1 ≤ n) × IsAbove n places × ((k : ℕ) → 1 ≤ k → AreBelow k places → n ≤ k)

-- these places are in folders of the least numbers that are above those of the others
abbrev pub AreAbove : List Place → List Place → Type 0
AreAbove others places =
    (next : ℕ) × IsFree next others × (places ≡ places_from next (length places))

-- these places are some of the others, in their order, and between them folders of the least
-- numbers above those of the others
abbrev pub AreRolled : List Place → List Place → Type 0
AreRolled others places =
    (found : List (Option Place)) × AreOf others found × (next count : ℕ) × IsFree next others
    × (places ≡ places_with next found count)

-- The blocks of a store lay at the other places, and there were so many of them once its events
-- were saved; these places are in folders of the least numbers that are above theirs.
pub record AreNumbered (others : List Place) (count : ℕ) (places : List Place) : Type 0 where
  pub saved : List Place
  pub begins : (saved ≡ others) ⊎ AreRolled others saved
  pub many : length saved ≡ count
  pub above : AreAbove saved places
