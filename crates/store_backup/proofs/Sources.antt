-- A store that is read.
use Rattle.std.proofs.Common.{◌≡◌, ℕ, Bool, true, false, List, ◌++◌, Option, map, drop, length, refl, sym}
use Rattle.std.proofs.Common.{◌⊎◌, inl, inr, subst, ◌∙◌, Result, Ok, Err}
use Rattle.std.specs.Prelude.{OnOk}
use Rattle.std.proofs.Math.Dec.{eqb}
use Rattle.std.proofs.lemmas.Bool.Decides.{Decides-eqb}
use Rattle.std.proofs.lemmas.Slice.Eq.{starts_is}
use Rattle.std.specs.List.{starts_with}
use Rattle.data_folder.specs.Folders.{KeepsAll}
use Rattle.data_folder.specs.JournalFile.{journal_name}
use Rattle.head.specs.Blocks.{part_in}
use Rattle.head.specs.Heads.{BlockPart}
use Rattle.head.specs.Worlds.{Event}
use Rattle.head_record.specs.Saved.{Saved}
use Rattle.store_folder.specs.declared.error.StartCause.TheVariants.{Refused}
use Rattle.store_folder.specs.declared.error.StartError.{StartError}
use Rattle.store_folder.specs.declared.error.StartError.TheVariants.{Medium}
use Rattle.store_folder.specs.declared.reading.FoundStore.{FoundStore}
use Rattle.store_folder.specs.Codes.{cause_of}
use Rattle.store_folder.specs.Faults.{DeniesStore, IsStoreOf}
use Rattle.store_folder.specs.Finding.{IsFoundStore}
use Rattle.store_folder.specs.Refusals.{IsRefusal}
use Rattle.store_folder.proofs.Files.{blocks_kept, file_stays}
use Rattle.store_folder.specs.Starting.{DeniesStart}
use Rattle.store_folder.proofs.Refusals.{found_refused, store_refused}
use Rattle.store_joiner.specs.Stores.{HasStore}
use Rattle.store_backup.specs.declared.error.CopyFault.{CopyFault}
use Rattle.store_backup.specs.declared.error.CopyFault.TheVariants.{Source}
use Rattle.store_backup.specs.declared.error.CopyFault.TheVariants as faults
use Rattle.store_backup.specs.Copies.{DeniesRead, IsOfTarget, IsTaken}
use Rattle.store_backup.specs.Reading.{DeniesSource, HasChanged, IsOfStart}

-- whether one text begins with another

pub begins_with : (last first text front : List ℕ) (r : Bool) → r ≡ starts_with eqb text front
    → text ≡ last → front ≡ first → r ≡ true → last ≡ first ++ drop (length first) last
begins_with last first text front r is one two is_so =
    subst (λ (t : List ℕ). t ≡ first ++ drop (length first) t) one
    (subst (λ (p : List ℕ). text ≡ p ++ drop (length p) text) two
    ((starts_is Decides-eqb text front r is).0 is_so))

pub begins_not : (last first text front : List ℕ) (r : Bool) → r ≡ starts_with eqb text front
    → text ≡ last → front ≡ first → r ≡ false → (rest : List ℕ) → last ≡ first ++ rest → ⊥
begins_not last first text front r is one two is_not rest e =
    let here : text ≡ front ++ rest =
    one ∙ (e ∙ subst (λ (p : List ℕ). first ++ rest ≡ p ++ rest) (sym two) refl) in
    let is_so : r ≡ true = (starts_is Decides-eqb text front r is).1 rest here in
    absurd (let both : true ≡ false = sym is_so ∙ is_not in cc)

module _ {F : Type 0} (shows : F → List ℕ → Option (List ℕ) → Type 0)
    (kept : F → List ℕ → ℕ → Type 0) where
  -- what was found lies there
  pub lies_there : (s : FoundStore) (f : F)
      → IsFoundStore shows kept s.journal (map part_in s.blocks.items) f
      → HasStore shows kept s.journal.head (map part_in s.blocks.items) s.journal.events.items f
  lies_there s f is =
      record { file = is.file; has = is.has; journal = is.journal.is; blocks = is.blocks }

  -- a store stays where nothing is changed
  pub still_lies : (saved : Saved) (parts : List BlockPart) (events : List Event) (old new : F)
      → KeepsAll shows kept old new → HasStore shows kept saved parts events old
      → HasStore shows kept saved parts events new
  still_lies saved parts events old new k h = record {
    file = h.file;
    has = file_stays shows kept journal_name h.file old new k h.has;
    journal = h.journal;
    blocks = blocks_kept shows kept saved.places parts old new k h.blocks;
  }

  -- a refusal of the source is one of a start
  pub of_start : (failed : F → Bool) (f : F) (e : StartError) → DeniesStore shows kept failed f e
      → IsOfStart (Source e)
  of_start failed f e denied other is refused =
      let same : e ≡ other = cc in
      subst IsRefusal same (store_refused shows kept failed f e
      (subst (λ (x : StartError). cause_of x ≡ Refused) (sym same) refused) denied)

  -- so is one of what was found
  pub of_found : (s : FoundStore) (f : F) (fault : CopyFault)
      → IsFoundStore shows kept s.journal (map part_in s.blocks.items) f
      → IsOfTarget fault ⊎ ((cause : StartError) × (fault ≡ Source cause)
      × DeniesStart s.journal.head (map part_in s.blocks.items) s.journal.events.items cause)
      → IsOfStart fault
  of_found s f fault is (inl (inl target)) other source refused = cc
  of_found s f fault is (inl (inr x)) other source refused = let target = x.1 in cc
  of_found s f fault is (inr x) other source refused =
      let first = x.1 in
      let same : x.0 ≡ other = cc in
      subst IsRefusal same
      (found_refused shows kept s.journal (map part_in s.blocks.items) f x.0 is x.2)

-- what the target has

pub on_ok : {A E : Type 0} (r : Result A E) (P : Type 0) → P → OnOk r P
on_ok (Ok x) P p = p
on_ok (Err e) P p = tt

pub not_a_journal : {X : Type 0} (fault : CopyFault)
    → (fault ≡ faults.Blocks) ⊎ (fault ≡ faults.Target) → fault ≡ faults.Taken → X
not_a_journal fault (inl is) taken = cc
not_a_journal fault (inr is) taken = cc

pub blocks_or_target : (fault : CopyFault) → (fault ≡ faults.Blocks) ⊎ (fault ≡ faults.Target)
    → IsTaken fault ⊎ IsOfTarget fault
blocks_or_target fault (inl is) = inl (inr is)
blocks_or_target fault (inr is) = inr (inl is)

-- nor is a refusal of the target one of a start
pub of_target : (fault : CopyFault) → IsTaken fault ⊎ IsOfTarget fault → IsOfStart fault
of_target fault (inl (inl is)) other source refused = cc
of_target fault (inl (inr is)) other source refused = cc
of_target fault (inr (inl is)) other source refused = cc
of_target fault (inr (inr x)) other source refused = let is = x.1 in cc

-- what was read is what lay there
pub is_that : (saved : Saved) (parts : List BlockPart) (events : List Event) (s : FoundStore)
    → IsStoreOf saved parts events s
    → (s.journal.head ≡ saved) × (map part_in s.blocks.items ≡ parts)
    × (s.journal.events.items ≡ events)
is_that saved parts events s is = (is.head, is.blocks, is.events)

-- a fault that tells of what the target has
abbrev IsOfTaken : CopyFault → Type 0
IsOfTaken faults.Taken = Unit {0}
IsOfTaken faults.Blocks = Unit {0}
IsOfTaken faults.NoStore = ⊥
IsOfTaken faults.Changed = ⊥
IsOfTaken (faults.Source e) = ⊥
IsOfTaken (faults.Write e) = ⊥
IsOfTaken faults.Target = ⊥

no_taken : {X : Type 0} (fault other is : CopyFault) → IsOfTaken other → fault ≡ other → fault ≡ is
    → (IsOfTaken is → X) → X
no_taken fault other is taken e so none = none (subst IsOfTaken (sym e ∙ so) taken)

-- nor does a refusal of the source, or a write that failed
pub not_taken : {F : Type 0} (shows : F → List ℕ → Option (List ℕ) → Type 0)
    (kept : F → List ℕ → ℕ → Type 0) (failed : F → Bool) (old new again : F)
    (fault other : CopyFault) {X : Type 0} → IsOfTaken other
    → IsOfTarget fault ⊎ (DeniesSource shows kept failed new again fault
    ⊎ DeniesRead shows kept old new fault) → fault ≡ other → X
not_taken shows kept failed old new again fault other taken (inl (inl is)) e =
    no_taken fault other faults.Target taken e is (λ none. absurd none)
not_taken shows kept failed old new again fault other taken (inl (inr x)) e =
    no_taken fault other (faults.Write x.0) taken e x.1 (λ none. absurd none)
not_taken shows kept failed old new again fault other taken (inr (inl (inl x))) e =
    no_taken fault other faults.Changed taken e x.0 (λ none. absurd none)
not_taken shows kept failed old new again fault other taken (inr (inl (inr (inl (inl (inl x)))))) e =
    no_taken fault other faults.NoStore taken e x.0 (λ none. absurd none)
not_taken shows kept failed old new again fault other taken (inr (inl (inr (inl (inl (inr x)))))) e =
    no_taken fault other (faults.Source Medium) taken e x.0 (λ none. absurd none)
not_taken shows kept failed old new again fault other taken (inr (inl (inr (inl (inr x))))) e =
    no_taken fault other (faults.Source x.0) taken e x.1 (λ none. absurd none)
not_taken shows kept failed old new again fault other taken (inr (inl (inr (inr (inl x))))) e =
    no_taken fault other faults.NoStore taken e x.0 (λ none. absurd none)
not_taken shows kept failed old new again fault other taken (inr (inl (inr (inr (inr x))))) e =
    no_taken fault other (faults.Source Medium) taken e x.0 (λ none. absurd none)
not_taken shows kept failed old new again fault other taken (inr (inr x)) e =
    no_taken fault other (faults.Source x.4.0) taken e x.4.1 (λ none. absurd none)

-- what is said of a target tells of no change of the source

pub not_changed : {X : Type 0} (fault : CopyFault) → IsTaken fault ⊎ IsOfTarget fault
    → fault ≡ faults.Changed → X
not_changed fault (inl (inl is)) changed = cc
not_changed fault (inl (inr is)) changed = cc
not_changed fault (inr (inl is)) changed = cc
not_changed fault (inr (inr x)) changed = let is = x.1 in cc

-- and the source has changed if it is said to

pub has_changed : {F : Type 0} (shows : F → List ℕ → Option (List ℕ) → Type 0)
    (kept : F → List ℕ → ℕ → Type 0) (failed : F → Bool) (old new again : F)
    (fault : CopyFault)
    → IsTaken fault ⊎ (IsOfTarget fault ⊎ (DeniesSource shows kept failed new again fault
    ⊎ DeniesRead shows kept old new fault)) → fault ≡ faults.Changed
    → HasChanged shows kept new again
has_changed shows kept failed old new again fault (inl (inl is)) changed = cc
has_changed shows kept failed old new again fault (inl (inr is)) changed = cc
has_changed shows kept failed old new again fault (inr (inl (inl is))) changed = cc
has_changed shows kept failed old new again fault (inr (inl (inr x))) changed =
    let is = x.1 in cc
has_changed shows kept failed old new again fault (inr (inr (inl (inl x)))) changed = x.1
has_changed shows kept failed old new again fault (inr (inr (inl (inr (inl (inl (inl x)))))))
    changed = let is = x.0 in cc
has_changed shows kept failed old new again fault (inr (inr (inl (inr (inl (inl (inr x)))))))
    changed = let is = x.0 in cc
has_changed shows kept failed old new again fault (inr (inr (inl (inr (inl (inr x)))))) changed =
    let is = x.1 in cc
has_changed shows kept failed old new again fault (inr (inr (inl (inr (inr (inl x)))))) changed =
    let is = x.0 in cc
has_changed shows kept failed old new again fault (inr (inr (inl (inr (inr (inr x)))))) changed =
    let is = x.0 in cc
has_changed shows kept failed old new again fault (inr (inr (inr x))) changed =
    let is = x.4.1 in cc

pub not_of_found : {X : Type 0} (P : StartError → Type 0) (fault : CopyFault)
    → IsOfTarget fault ⊎ ((cause : StartError) × (fault ≡ Source cause) × P cause)
    → fault ≡ faults.Changed → X
not_of_found P fault (inl (inl is)) changed = cc
not_of_found P fault (inl (inr x)) changed = let is = x.1 in cc
not_of_found P fault (inr x) changed = let is = x.1 in cc
