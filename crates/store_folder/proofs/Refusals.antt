-- What is wrong with the folder of a store, whatever folder it is.
use Rattle.std.proofs.Common.{◌≡◌, inl, inr, ℕ, Bool, List, [], ◌∷◌, ◌++◌, Option, refl}
use Rattle.std.proofs.Common.{arith, subst, suc, sym}
use Rattle.std.specs.List.{Contains}
use Rattle.head.specs.Heads.{BlockPart}
use Rattle.head_record.specs.Saved.{Place}
use Rattle.store_folder.specs.declared.error.BlockFault.{BlockFault}
use Rattle.store_folder.specs.declared.error.BlockFault.TheVariants as faults
use Rattle.store_folder.specs.declared.error.StartCause.TheVariants.{Folder, Memory, Refused}
use Rattle.store_folder.specs.declared.error.StartCause.{StartCause}
use Rattle.store_folder.specs.declared.error.StartError.{StartError}
use Rattle.store_folder.specs.declared.error.StartError.TheVariants as errors
use Rattle.store_folder.specs.declared.journals.FoundJournal.{FoundJournal}
use Rattle.store_folder.specs.Codes.{block_cause, cause_of}
use Rattle.store_folder.specs.Faults.{DeniesBlock, DeniesOne, DeniesStore}
use Rattle.store_folder.specs.Finding.{IsFoundStore}
use Rattle.store_folder.specs.Holding.{AreAt}
use Rattle.store_folder.specs.Plain.{DeniesText}
use Rattle.store_folder.specs.Refusals.{AreSpelled, IsFileFault, IsRefusal}
use Rattle.store_folder.specs.Starting.{DeniesStart}

abbrev the : StartCause → StartCause
the x = x

pub no_refusal : {A : Type 0} → the Folder ≡ Refused → A
no_refusal e = absurd cc

pub no_memory : {A : Type 0} → the Memory ≡ Refused → A
no_memory e = absurd cc

among : (before after : List Place) (p : Place) → Contains (before ++ p ∷ after) p
among [] after p = (0, omega arith, refl)
among (q ∷ before) after p =
    let h = among before after p in
    (suc h.0, omega (arith, h.1), h.2)

module _ {F : Type 0} (shows : F → List ℕ → Option (List ℕ) → Type 0)
    (kept : F → List ℕ → ℕ → Type 0) where
  spelled : (places : List Place) (parts : List BlockPart) (f : F)
      → AreAt shows kept places parts f → AreSpelled places parts
  spelled [] [] f at = tt
  spelled [] (b ∷ parts) f at = absurd at
  spelled (p ∷ places) [] f at = absurd at
  spelled (p ∷ places) (b ∷ parts) f at = ((at.0.0, at.0.1), spelled places parts f at.1)

  -- no snapshot is made of what was found, or an event is refused
  pub found_refused : (j : FoundJournal) (parts : List BlockPart) (f : F) (e : StartError)
      → IsFoundStore shows kept j parts f → DeniesStart j.head parts j.events.items e
      → IsRefusal e
  found_refused j parts f errors.Medium h d = absurd d
  found_refused j parts f (errors.Journal e) h d = absurd d
  found_refused j parts f (errors.Block e) h d = absurd d
  found_refused j parts f (errors.Head e) h d = (
    h.file,
    j.head,
    j.events.items,
    parts,
    h.journal.is,
    spelled j.head.places parts f h.blocks,
    d,
  )
  found_refused j parts f (errors.Event refused) h d =
      inl (
        h.file,
        j.head,
        j.events.items,
        parts,
        h.journal.is,
        spelled j.head.places parts f h.blocks,
        d,
      )

  file_refused : (failed : F → Bool) (f : F) (p : Place) (e : BlockFault)
      → block_cause e ≡ Refused → DeniesBlock shows kept failed f p e → IsFileFault e
  file_refused failed f p faults.Memory is d = no_memory is
  file_refused failed f p faults.Medium is d = no_refusal is
  file_refused failed f p faults.Missing is d = tt
  file_refused failed f p (faults.Refused e) is d = (d.0, d.2)

  -- a folder is not read as a store
  pub store_refused : (failed : F → Bool) (f : F) (e : StartError) → cause_of e ≡ Refused
      → DeniesStore shows kept failed f e → IsRefusal e
  store_refused failed f errors.Medium is d = no_refusal is
  store_refused failed f (errors.Journal e) is d = (d.0, inl d.2)
  store_refused failed f (errors.Block unread) is d =
      let one : DeniesOne shows kept failed f d.1.places unread = d.5 in (
        d.0,
        d.1,
        d.2,
        d.4,
        record {
          place = one.place;
          there = subst (λ (ps : List Place). Contains ps one.place) (sym one.parts)
              (among one.before one.after one.place);
          is = one.number;
        },
        file_refused failed f one.place unread.fault is one.refused,
      )
  store_refused failed f (errors.Head e) is d = absurd d
  store_refused failed f (errors.Event refused) is d = absurd d

-- a journal of events alone is given no head
pub plain_refused : (file : List ℕ) (e : StartError) → DeniesText file e → IsRefusal e
plain_refused file errors.Medium d = absurd d
plain_refused file (errors.Journal e) d = (file, inr d)
plain_refused file (errors.Block unread) d = absurd d
plain_refused file (errors.Head e) d = absurd d
plain_refused file (errors.Event refused) d = inr (file, d.0, d.1, d.2)
