-- A copy that is begun again where its source has changed meanwhile.
use Rattle.std.specs.Prelude.{◌≡◌, ◌⊎◌, ◌<◌, ℕ, Bool, true, List, Option, None, Some, Result, Err}
use Rattle.std.specs.Prelude.{IfErr, IfOk, MatchResult, OnOk, length, slice_index_or}
use Rattle.data_folder.specs.Folders.{HasFile, Left, Untouched}
use Rattle.data_folder.specs.JournalFile.{journal_name}
use Rattle.head.specs.Heads.{BlockPart}
use Rattle.head.specs.Worlds.{Event}
use Rattle.head_record.specs.Saved.{Saved}
use Rattle.store_folder.specs.Faults.{TellsFiles}
use Rattle.store_folder.specs.Sweeps.{ListsNumber}
use Rattle.store_joiner.specs.Stores.{HasBlocks}
use Rattle.store_backup.specs.declared.copying.Copied.{Copied}
use Rattle.store_backup.specs.declared.error.CopyFault.{CopyFault}
use Rattle.store_backup.specs.declared.error.CopyFault.TheVariants as faults
use Rattle.store_backup.specs.Copies.{DeniesRead, IsCopied, IsOfTarget, IsTaken, MayBegin}
use Rattle.store_backup.specs.Reading.{DeniesSource, HasChanged, IsRead, IsSettled}

-- nothing was changed by these views, one by one; past the last ones this says nothing
abbrev pub AreLookedAt : {F : Type 0} → (F → List ℕ → Option (List ℕ) → Type 0)
    → (F → List ℕ → ℕ → Type 0) → (F → ℕ) → (F → ℕ → Left → Type 0)
    → List (F × F) → List (F × F) → Type 0
AreLookedAt {F} shows kept moment left_since old new =
    (k : ℕ) (d : F × F)
    → Untouched shows kept moment left_since (slice_index_or old k d).0 (slice_index_or new k d).0
    × Untouched shows kept moment left_since (slice_index_or old k d).1 (slice_index_or new k d).1

-- by the first so many of these the source has changed
abbrev pub HaveChanged : {F : Type 0} → (F → List ℕ → Option (List ℕ) → Type 0)
    → (F → List ℕ → ℕ → Type 0) → List (F × F) → ℕ → Type 0
HaveChanged {F} shows kept views n =
    (k : ℕ) (d : F × F) → k < n
    → HasChanged shows kept (slice_index_or views k d).0 (slice_index_or views k d).1

-- All that `copy_store` says of a target and of why it is refused, if it was called with these two
-- views and this target.
pub record IsCopy {F G : Type 0} (f_shows : F → List ℕ → Option (List ℕ) → Type 0)
    (f_kept : F → List ℕ → ℕ → Type 0) (f_failed : F → Bool)
    (shows : G → List ℕ → Option (List ℕ) → Type 0) (lists : G → List ℕ → List (List ℕ) → Type 0)
    (kept : G → List ℕ → ℕ → Type 0) (moment : G → ℕ) (left_since : G → ℕ → Left → Type 0)
    (old new : F × F) (target : G) (result : Result (Copied × G) (CopyFault × G)) : Type 0 where
  pub copied : IfOk result (λ (x : Copied × G). (saved : Saved) × (parts : List BlockPart)
      × (events : List Event) × IsRead f_shows f_kept saved parts events old.0 new.0
      × IsCopied shows kept moment left_since saved parts events x.0 target x.1)
  pub settled : OnOk result (IsSettled f_shows f_kept new.0 new.1)
  pub begins : IfErr result (λ (e : CopyFault × G).
      Untouched shows kept moment left_since target e.1
      ⊎ ((saved : Saved) × (parts : List BlockPart) × (events : List Event)
      × IsRead f_shows f_kept saved parts events old.0 new.0
      × MayBegin shows kept moment left_since saved parts events target e.1))
  pub taken : IfErr result (λ (e : CopyFault × G). e.0 ≡ faults.Taken
      → (file : List ℕ) × HasFile shows kept journal_name file e.1
      × Untouched shows kept moment left_since target e.1)
  pub safe : TellsFiles shows → (file : List ℕ) → shows target journal_name (Some file)
      → MatchResult result (λ (x : Copied × G). ⊥)
      (λ (e : CopyFault × G). Untouched shows kept moment left_since target e.1)
  pub listed : IfErr result (λ (e : CopyFault × G). e.0 ≡ faults.Blocks
      → shows e.1 journal_name None × ListsNumber lists e.1 true
      × Untouched shows kept moment left_since target e.1)
  pub blocks : TellsFiles shows → shows target journal_name None
      → HasBlocks shows lists kept moment left_since target
      → MatchResult result (λ (x : Copied × G). ⊥)
      (λ (e : CopyFault × G). Untouched shows kept moment left_since target e.1)
  pub refused : IfErr result (λ (e : CopyFault × G). IsTaken e.0 ⊎ (IsOfTarget e.0
      ⊎ (DeniesSource f_shows f_kept f_failed new.0 new.1 e.0
      ⊎ DeniesRead f_shows f_kept old.0 new.0 e.0)))

-- First nothing was changed in the target. Then it was left as `copy_store` leaves it, if that was
-- called with two of these views and did not find the source changed, after by each two before it
-- had; or it has by all of them.
pub record IsTried {F G : Type 0} (f_shows : F → List ℕ → Option (List ℕ) → Type 0)
    (f_kept : F → List ℕ → ℕ → Type 0) (f_failed : F → Bool)
    (shows : G → List ℕ → Option (List ℕ) → Type 0) (lists : G → List ℕ → List (List ℕ) → Type 0)
    (kept : G → List ℕ → ℕ → Type 0) (moment : G → ℕ) (left_since : G → ℕ → Left → Type 0)
    (old new : List (F × F)) (target : G) (result : Result (Copied × G) (CopyFault × G))
    : Type 0 where
  pub left : G
  pub same : Untouched shows kept moment left_since target left
  pub last : ((k : ℕ) × (k < length old) × HaveChanged f_shows f_kept new k × ((d : F × F)
      → IsCopy f_shows f_kept f_failed shows lists kept moment left_since (slice_index_or old k d)
      (slice_index_or new k d) left result)
      × IfErr result (λ (e : CopyFault × G). e.0 ≡ faults.Changed → ⊥))
      ⊎ ((result ≡ Err (faults.Changed, left)) × HaveChanged f_shows f_kept new (length old))
