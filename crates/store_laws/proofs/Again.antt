-- A folder that has what a crash left.
use Rattle.std.proofs.Common.{ℕ, List, [], ◌∷◌, Option}
use Rattle.data_folder.specs.Folders.{HasFile, Left}
use Rattle.data_folder.specs.JournalFile.{journal_name}
use Rattle.data_folder.specs.States.{AreThere, HasFiles, Named}
use Rattle.head.specs.Heads.{BlockPart}
use Rattle.head.specs.Worlds.{Event}
use Rattle.head_record.specs.Saved.{Place, Saved}
use Rattle.head_record.proofs.Worlds.{in_front}
use Rattle.store_laws.specs.Starts.{HasLeft}
use Rattle.store_folder.specs.Blocks.{named_files}
use Rattle.store_folder.specs.Holding.{AreAt}
use Rattle.store_folder.specs.Journals.{IsJournalOf}
use Rattle.store_folder.specs.States.{IsState, LieAt}

module _ {F : Type 0} (shows : F → List ℕ → Option (List ℕ) → Type 0)
    (kept : F → List ℕ → ℕ → Type 0) where
  files_again : (files : List Named) (f : F) (left : Left) → HasLeft shows kept f left
      → HasFiles files left → AreThere shows kept files f
  files_again [] f left all has = tt
  files_again (file ∷ files) f left all has =
      (all file.0 file.1 has.0, files_again files f left all has.1)

  blocks_again : (places : List Place) (parts : List BlockPart) (f : F) (left : Left)
      → HasLeft shows kept f left → LieAt places parts left → AreAt shows kept places parts f
  blocks_again [] [] f left all lie = tt
  blocks_again [] (b ∷ parts) f left all lie = absurd lie
  blocks_again (p ∷ places) [] f left all lie = absurd lie
  blocks_again (p ∷ places) (b ∷ parts) f left all lie = (
    (
      lie.0.0,
      lie.0.1,
      files_again (named_files p lie.0.0) f left all lie.0.2,
    ),
    blocks_again places parts f left all lie.1,
  )

  pub store_again : (f : F) (left : Left) (saved : Saved) (parts : List BlockPart)
      (events : List Event) → HasLeft shows kept f left → IsState saved parts events left
      → (file : List ℕ) × HasFile shows kept journal_name file f
      × IsJournalOf file saved events × AreAt shows kept saved.places parts f
  store_again f left saved parts events all state = (
    state.kept.journal.0,
    all journal_name state.kept.journal.0 state.kept.journal.1,
    record {
      head = state.head;
      stands = record {
        before = in_front saved;
        contents = state.kept.contents;
        names = state.kept.names;
        spell = state.kept.spell;
        recovers = state.kept.journal.2;
      };
    },
    blocks_again saved.places parts f left all state.blocks,
  )
