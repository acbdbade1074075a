-- A journal of a head and no events.
use Rattle.std.proofs.Common.{◌≡◌, ℕ, Bool, List, [], Option, Some, length, refl, subst}
use Rattle.data_folder.specs.Folders.{Left}
use Rattle.data_folder.specs.JournalFile.{journal_name}
use Rattle.data_folder.specs.Rolls as rolls
use Rattle.data_folder.specs.Sweeping.{KeepsStore}
use Rattle.event_journal.specs.Holding.{contents_with}
use Rattle.head_record.specs.Saved.{Saved}
use Rattle.head_record.specs.Spelling.{head_texts, IsSaved}
use Rattle.head_record.proofs.Worlds.{in_front}
use Rattle.journal.proofs.Keeping.{itself}
use Rattle.store_folder.specs.Rolls.{HasHeadAlone, head_file}

module _ {F : Type 0} (shows : F → List ℕ → Option (List ℕ) → Type 0)
    (kept : F → List ℕ → ℕ → Type 0) (sound : F → Bool) where
  -- a journal of its contents alone
  pub head_alone : (saved : Saved) (f : F) (len : ℕ) → IsSaved saved
      → rolls.Keeps shows kept sound (contents_with (head_texts saved) []) f len
      → HasHeadAlone shows kept saved f
  head_alone saved f len is k = record {
    file = k.file;
    is = record {
      head = is;
      stands = record {
        before = in_front saved;
        contents = [];
        names = [];
        spell = refl;
        recovers = itself (contents_with (head_texts saved) []) k.each;
      };
    };
  }

  -- it stays while blocks are removed
  pub head_stays : (moment : F → ℕ) (left_since : F → ℕ → Left → Type 0)
      (names : List (List ℕ)) (saved : Saved) (old new : F)
      → KeepsStore shows kept sound moment left_since names old new
      → HasHeadAlone shows kept saved old → HasHeadAlone shows kept saved new
  head_stays moment left_since names saved old new stays h = record {
    file = record {
      shown = stays.lasting journal_name (Some (head_file saved)) refl h.file.shown;
      durable = stays.durable journal_name (length (head_file saved)) refl h.file.durable;
    };
    is = h.is;
  }

-- of the same head
pub same_alone : {F : Type 0} (shows : F → List ℕ → Option (List ℕ) → Type 0)
    (kept : F → List ℕ → ℕ → Type 0) (a b : Saved) (f : F) → a ≡ b
    → HasHeadAlone shows kept a f → HasHeadAlone shows kept b f
same_alone shows kept a b f same h = subst (λ (s : Saved). HasHeadAlone shows kept s f) same h
