-- Files that are read one after another.
use Rattle.std.proofs.Common.{◌≡◌, ℕ, List, [], ◌∷◌, ◌++◌, map, Option, Some, length, sym, ap, subst}
use Rattle.std.proofs.Common.{◌∙◌}
use Rattle.std.proofs.lemmas.List.{map-append}
use Rattle.block.specs.Blocks.{Shown}
use Rattle.data_folder.specs.Folders.{HasFile, KeepsAll}
use Rattle.data_folder.specs.States.{AreThere}
use Rattle.head.specs.Blocks.{part_in}
use Rattle.head.specs.Heads.{BlockPart}
use Rattle.head_record.specs.Saved.{Place}
use Rattle.store_folder.specs.Blocks.{BlockFiles, SpellBlock, named_files}
use Rattle.store_folder.specs.Holding.{AreAt}
use Rattle.store_folder.specs.StoreLaws.{blocks_stay}

module _ {F : Type 0} (shows : F → List ℕ → Option (List ℕ) → Type 0)
    (kept : F → List ℕ → ℕ → Type 0) where
  pub file_stays : (name bytes : List ℕ) (a b : F) → KeepsAll shows kept a b
      → HasFile shows kept name bytes a → HasFile shows kept name bytes b
  file_stays name bytes a b k h = record {
    shown = k.same name (Some bytes) h.shown;
    durable = k.durable name (length bytes) h.durable;
  }

  pub blocks_kept : (places : List Place) (parts : List BlockPart) (a b : F)
      → KeepsAll shows kept a b → AreAt shows kept places parts a → AreAt shows kept places parts b
  blocks_kept places parts a b k at =
      blocks_stay shows kept places parts a b at (λ name x away shown. k.same name x shown)
      (λ name n away durable. k.durable name n durable)

  pub one_more_at : (places : List Place) (parts : List BlockPart) (p : Place) (b : BlockPart)
      (f : F) → AreAt shows kept places parts f
      → (files : BlockFiles) × SpellBlock files b × AreThere shows kept (named_files p files) f
      → AreAt shows kept (places ++ p ∷ []) (parts ++ b ∷ []) f
  one_more_at [] [] p b f at one = (one, tt)
  one_more_at [] (c ∷ parts) p b f at one = absurd at
  one_more_at (q ∷ places) [] p b f at one = absurd at
  one_more_at (q ∷ places) (c ∷ parts) p b f at one =
      (at.0, one_more_at places parts p b f at.1 one)

  -- one block more was read
  pub read_more : (places next : List Place) (old new : List Shown) (p q : Place) (b : Shown)
      (f g : F) → next ≡ places ++ p ∷ [] → new ≡ old ++ b ∷ [] → p ≡ q
      → AreAt shows kept places (map part_in old) f → KeepsAll shows kept f g
      → (files : BlockFiles) × SpellBlock files (part_in b)
      × AreThere shows kept (named_files q files) g
      → AreAt shows kept next (map part_in new) g
  read_more places next old new p q b f g is more same at k one =
      let parts : map part_in new ≡ map part_in old ++ part_in b ∷ [] =
      ap (λ (x : List Shown). map part_in x) more ∙ map-append part_in old (b ∷ []) in
      subst (λ (x : List Place). AreAt shows kept x (map part_in new) g) (sym is)
      (subst (λ (x : List BlockPart). AreAt shows kept (places ++ p ∷ []) x g) (sym parts)
      (one_more_at places (map part_in old) p (part_in b) g
      (blocks_kept places (map part_in old) f g k at)
      (subst (λ (x : Place). (files : BlockFiles) × SpellBlock files (part_in b)
      × AreThere shows kept (named_files x files) g) (sym same) one)))
