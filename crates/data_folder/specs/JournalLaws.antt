-- What is left of a journal, by what is left under its name, and what stays beside it.
use Rattle.std.specs.Prelude.{◌≡◌, ◌≢◌, ◌⊎◌, ◌≤◌, ℕ, List, Option, Some}
use Rattle.std.proofs.Common.{inl, inr, ⊎_elim, ap, subst, sym, ◌∙◌, arith}
use Rattle.journal.specs.Media.{MayLeave}
use Rattle.data_folder.specs.Folders.{Left, MayLeaveOf}
use Rattle.data_folder.specs.JournalFile.{journal_name, bytes_in}

pub left_now : (n : ℕ) (bytes left : List ℕ) (found : Option (List ℕ)) → bytes_in found ≡ left
    → MayLeaveOf n (Some bytes) found → MayLeave n bytes left
left_now n bytes left found is m = subst (MayLeave n bytes) (sym (ap bytes_in m.1) ∙ is) m.2

-- a crash leaves of names other than the journal's what it may leave
abbrev pub LeavesBeside : {F : Type 0} → (F → List ℕ → Option (List ℕ) → Type 0)
    → (F → List ℕ → ℕ → Type 0) → F → Left → Type 0
LeavesBeside shows kept old left =
    (name : List ℕ) (x : Option (List ℕ)) (n : ℕ) → name ≢ journal_name → shows old name x
    → kept old name n → MayLeaveOf n x (left name)

-- names other than the journal's have what they had, as much of it for good, also after a crash at
-- any moment since
pub record StaysBeside {F : Type 0} (shows : F → List ℕ → Option (List ℕ) → Type 0)
    (kept : F → List ℕ → ℕ → Type 0) (moment : F → ℕ) (left_since : F → ℕ → Left → Type 0)
    (old new : F) : Type 0 where
  pub later : moment old ≤ moment new
  pub same : (name : List ℕ) (x : Option (List ℕ)) → name ≢ journal_name → shows old name x
      → shows new name x
  pub durable : (name : List ℕ) (n : ℕ) → name ≢ journal_name → kept old name n
      → kept new name n
  pub keeps : (t : ℕ) (left : Left) → t ≤ moment old → left_since old t left
      → left_since new t left
  pub before : (t : ℕ) (left : Left) → t ≤ moment old → left_since new t left
      → left_since old t left
      ⊎ (left_since new (moment old) left × LeavesBeside shows kept old left)

pub all_stays : {F : Type 0} (shows : F → List ℕ → Option (List ℕ) → Type 0)
    (kept : F → List ℕ → ℕ → Type 0) (moment : F → ℕ) (left_since : F → ℕ → Left → Type 0)
    (f : F) → StaysBeside shows kept moment left_since f f
all_stays shows kept moment left_since f = record {
  later = omega arith;
  same = λ name x away shown. shown;
  durable = λ name n away durable. durable;
  keeps = λ t left le had. had;
  before = λ t left le had. inl had;
}

pub then_stays : {F : Type 0} (shows : F → List ℕ → Option (List ℕ) → Type 0)
    (kept : F → List ℕ → ℕ → Type 0) (moment : F → ℕ) (left_since : F → ℕ → Left → Type 0)
    → ((f : F) (t u : ℕ) (left : Left) → t ≤ u → u ≤ moment f → left_since f u left
    → left_since f t left)
    → (a b c : F) → StaysBeside shows kept moment left_since a b
    → StaysBeside shows kept moment left_since b c → StaysBeside shows kept moment left_since a c
then_stays shows kept moment left_since earlier a b c first second = record {
  later = omega (arith, first.later, second.later);
  same = λ name x away shown. second.same name x away (first.same name x away shown);
  durable = λ name n away durable. second.durable name n away (first.durable name n away durable);
  keeps = λ t left le had. second.keeps t left (omega (arith, le, first.later))
      (first.keeps t left le had);
  before = λ t left le had. ⊎_elim
      (λ past. ⊎_elim (λ old. inl old)
      (λ now. inr (second.keeps (moment a) left first.later now.0, now.1))
      (first.before t left le past))
      (λ now. inr (
        earlier c (moment a) (moment b) left first.later second.later now.0,
        λ name x n away shown durable. now.1 name x n away (first.same name x away shown)
            (first.durable name n away durable),
      ))
      (second.before t left (omega (arith, le, first.later)) had);
}
