-- What is changed while a store is opened.
use Rattle.std.proofs.Common.{◌≡◌, ◌⊎◌, inl, inr, ℕ, Bool, true, false, List, Option}
use Rattle.std.proofs.Common.{Some, Result, Ok, Err, length, sym, subst}
use Rattle.std.specs.Prelude.{IfErr, IfOk}
use Rattle.data_folder.specs.Folders.{HasFile, KeepsAll, KeepsOthers, Left, LeavesOnly, MayLeaveOf}
use Rattle.data_folder.specs.Folders.{Untouched}
use Rattle.data_folder.specs.JournalFile.{journal_name}
use Rattle.data_folder.proofs.Moments.{untouched, untouched_left}
use Rattle.store_folder.specs.declared.error.StartError.{StartError}
use Rattle.store_folder.specs.declared.error.StartError.TheVariants as errors
use Rattle.store_folder.specs.Faults.{DeniesStore}
use Rattle.store_folder.specs.Plain.{DeniesFolder, DeniesText, HasEither, begins_plain, may_be_plain}
use Rattle.store_folder.proofs.Plains.{as_it_was}

pub if_err : {X E : Type 0} (r : Result X E) (P Q : E → Type 0) → ((e : E) → P e → Q e) → IfErr r P
    → IfErr r Q
if_err (Ok x) P Q f h = tt
if_err (Err e) P Q f h = f e h

pub if_both : {X E : Type 0} (r : Result X E) (P Q R : X → Type 0)
    → ((x : X) → P x → Q x → R x) → IfOk r P → IfOk r Q → IfOk r R
if_both (Ok x) P Q R f p q = f x p q
if_both (Err e) P Q R f p q = tt

abbrev something : List ℕ → Option (List ℕ)
something x = Some x

pub same_file : (a b : List ℕ) → something a ≡ Some b → a ≡ b
same_file a b e = cc

-- what may be a journal of events alone, by the file that was found
pub plain_found : (x : Option (List ℕ)) (file : List ℕ) → x ≡ Some file → may_be_plain x ≡ false
    → begins_plain file ≡ false
plain_found x file is h = subst (λ (y : Option (List ℕ)). may_be_plain y ≡ false) is h

module _ {F : Type 0} (shows : F → List ℕ → Option (List ℕ) → Type 0)
    (kept : F → List ℕ → ℕ → Type 0) (failed : F → Bool) (moment : F → ℕ)
    (left_since : F → ℕ → Left → Type 0) where
  -- the refusal of a journal of events alone
  abbrev Refuses : F → F → List ℕ → StartError → Type 0
  Refuses old new file e =
      ((e ≡ errors.Medium) × (failed new ≡ true)) ⊎ ((new ≡ old) × DeniesText file e)

  pub adopting_denied : (old new : F) (file : List ℕ) (e : StartError) → begins_plain file ≡ true
      → HasFile shows kept journal_name file old → Refuses old new file e
      → DeniesFolder shows kept failed new e
  adopting_denied old new file e plain has (inl x) =
      inl (subst (λ (y : StartError). DeniesStore shows kept failed new y) (sym x.0) x.1)
  adopting_denied old new file e plain has (inr x) =
      inr (
        file,
        plain,
        subst (λ (f : F). HasFile shows kept journal_name file f) (sym x.0) has,
        x.1,
      )

  pub adopting_undone : (old new : F) (file : List ℕ) (e : StartError) → Refuses old new file e
      → (e ≡ errors.Medium → ⊥) → Untouched shows kept moment left_since old new
  adopting_undone old new file e (inl x) unless = absurd (unless x.0)
  adopting_undone old new file e (inr x) unless =
      subst (λ (f : F). Untouched shows kept moment left_since old f) (sym x.0)
      (untouched shows kept moment left_since old)

  pub others_stay : (a b : List ℕ) (old new : F) → KeepsAll shows kept old new
      → KeepsOthers shows kept a b old new
  others_stay a b old new all = record {
    same = λ name x i j shown. all.same name x shown;
    durable = λ name n i j durable. all.durable name n durable;
  }

  pub others_after : (a b : List ℕ) (old mid new : F) → KeepsAll shows kept old mid
      → KeepsOthers shows kept a b mid new → KeepsOthers shows kept a b old new
  others_after a b old mid new all others = record {
    same = λ name x i j shown. others.same name x i j (all.same name x shown);
    durable = λ name n i j durable. others.durable name n i j (all.durable name n durable);
  }

  -- a journal that lies there for good stays as it was, where nothing is changed
  pub journal_left : (old new : F) (file : List ℕ)
      → ((name : List ℕ) (x : Option (List ℕ)) (n : ℕ) (left : Left) → shows old name x
      → kept old name n → left_since old (moment old) left → MayLeaveOf n x (left name))
      → HasFile shows kept journal_name file old → Untouched shows kept moment left_since old new
      → LeavesOnly moment left_since old new (HasEither file)
  journal_left old new file only_now has same =
      as_it_was moment left_since old new file
      (untouched_left shows kept moment left_since old new journal_name file has
      (λ left had. only_now journal_name (Some file) (length file) left has.shown has.durable had)
      same)
