-- What is found in a folder of whose files no clause tells.
use Rattle.std.proofs.Common.{ℕ, List, [], ◌∷◌, Option, None, Some}
use Rattle.std.specs.Prelude.{map}
use Rattle.data_folder.specs.States.{AreThere, Named}
use Rattle.head.specs.Blocks.{part_in}
use Rattle.head.specs.Heads.{BlockPart}
use Rattle.head_record.specs.Saved.{Place}
use Rattle.store_folder.specs.Blocks.{named_files}
use Rattle.store_folder.specs.Holding.{AreAt}
use Rattle.store_folder.specs.declared.reading.FoundStore.{FoundStore}
use Rattle.commands.specs.Keeping.{HasFound}

module _ {F : Type 0} where
  -- no clause tells what a name has, nor what is there for good
  abbrev Shows : F → List ℕ → Option (List ℕ) → Type 0
  Shows f name x = Unit {0}

  abbrev Kept : F → List ℕ → ℕ → Type 0
  Kept f name n = Unit {0}

  there : (files : List Named) (f : F) → AreThere Shows Kept files f
  there [] f = tt
  there (file ∷ files) f = (record { shown = tt; durable = tt }, there files f)

  at_places : {G : Type 0} (places : List Place) (parts : List BlockPart) (f : F) (g : G)
      → AreAt (λ (g : G) name x. Unit {0}) (λ (g : G) name n. Unit {0}) places parts g
      → AreAt Shows Kept places parts f
  at_places [] [] f g at = tt
  at_places [] (b ∷ parts) f g at = absurd at
  at_places (p ∷ places) [] f g at = absurd at
  at_places (p ∷ places) (b ∷ parts) f g at = (
    (at.0.0, at.0.1, there (named_files p at.0.0) f),
    at_places places parts f g at.1,
  )

  -- what is found in one such folder is found in each
  pub found_in_each : {G : Type 0} (f : F) (g : G) (found : Option FoundStore)
      → HasFound (λ (g : G) name x. Unit {0}) (λ (g : G) name n. Unit {0}) g found
      → HasFound Shows Kept f found
  found_in_each f g None h = (tt, tt)
  found_in_each f g (Some s) h = record {
    file = h.file;
    has = record { shown = tt; durable = tt };
    journal = h.journal;
    blocks = at_places s.journal.head.places (map part_in s.blocks.items) f g h.blocks;
  }
