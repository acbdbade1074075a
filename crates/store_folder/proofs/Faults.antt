-- Why a store is not read.
use Rattle.std.proofs.Common.{◌≡◌, inl, inr, ℕ, zero, suc, ◌+◌, ◌≤◌, Bool, List, [], ◌∷◌, ◌++◌, take, drop}
use Rattle.std.proofs.Common.{Option, None, Some, length, refl, ap, subst, arith}
use Rattle.std.specs.Prelude.{codes, slice_get}
use Rattle.head_record.specs.Saved.{Place}
use Rattle.store_folder.specs.declared.error.BlockFault.{BlockFault}
use Rattle.store_folder.specs.declared.error.BlockFault.TheVariants as faults
use Rattle.store_folder.specs.Blocks.{name_in}
use Rattle.store_folder.specs.Faults.{DeniesBlock, DeniesFiles, DeniesName, DeniesOne, LacksOne}

split_here : (ps : List Place) (i : ℕ) (p : Place) → slice_get ps i ≡ Some p
    → ps ≡ take i ps ++ p ∷ drop (suc i) ps
split_here [] i p e = absurd cc
split_here (q ∷ ps) zero p e =
    let same : q ≡ p = cc in ap (λ (x : Place). x ∷ ps) same
split_here (q ∷ ps) (suc i) p e = ap (λ (x : List Place). q ∷ x) (split_here ps i p e)

drop_next : (ps : List Place) (i : ℕ) (p : Place) → slice_get ps i ≡ Some p
    → drop i ps ≡ p ∷ drop (suc i) ps
drop_next [] i p e = absurd cc
drop_next (q ∷ ps) zero p e =
    let same : q ≡ p = cc in ap (λ (x : Place). x ∷ ps) same
drop_next (q ∷ ps) (suc i) p e = drop_next ps i p e

pub drop_here : (ps : List Place) (i : ℕ) (p : Place) → slice_get ps i ≡ Some p
    → drop i ps ≡ p ∷ drop (i + 1) ps
drop_here ps i p e =
    let n : suc i ≡ i + 1 = omega arith in
    subst (λ (k : ℕ). drop i ps ≡ p ∷ drop k ps) n (drop_next ps i p e)

pub drop_all : (ps : List Place) (i : ℕ) → length ps ≤ i → drop i ps ≡ []
drop_all [] zero le = refl
drop_all [] (suc i) le = refl
drop_all (q ∷ ps) zero le = absurd (omega (arith, le))
drop_all (q ∷ ps) (suc i) le = drop_all ps i (omega (arith, le))

module _ {F : Type 0} (shows : F → List ℕ → Option (List ℕ) → Type 0) (failed : F → Bool) where
  -- a file of the block is not read
  lacks : (f : F) (p : Place) (name other : List ℕ) (e : BlockFault) → name ≡ other
      → (shows f other None → LacksOne shows f p) → DeniesName shows failed f name e
      → DeniesFiles shows failed f p e
  lacks f p name other faults.Memory is put d = tt
  lacks f p name other faults.Medium is put d = d
  lacks f p name other faults.Missing is put d =
      put (subst (λ (n : List ℕ). shows f n None) is d)
  lacks f p name other (faults.Refused e) is put d = absurd d

  pub lacks_meta : (f : F) (p : Place) (k : ℕ) (e : BlockFault) → k ≡ p.0
      → DeniesName shows failed f (name_in k (codes "meta.json")) e
      → DeniesFiles shows failed f p e
  lacks_meta f p k e is d =
      lacks f p (name_in k (codes "meta.json")) (name_in p.0 (codes "meta.json")) e
      (ap (λ (n : ℕ). name_in n (codes "meta.json")) is) (λ none. inl none) d

  pub lacks_index : (f : F) (p : Place) (k : ℕ) (e : BlockFault) → k ≡ p.0
      → DeniesName shows failed f (name_in k (codes "index")) e → DeniesFiles shows failed f p e
  lacks_index f p k e is d =
      lacks f p (name_in k (codes "index")) (name_in p.0 (codes "index")) e
      (ap (λ (n : ℕ). name_in n (codes "index")) is) (λ none. inr (inl none)) d

  pub lacks_chunks : (f : F) (p : Place) (k : ℕ) (e : BlockFault) → k ≡ p.0
      → DeniesName shows failed f (name_in k (codes "chunks/000001")) e
      → DeniesFiles shows failed f p e
  lacks_chunks f p k e is d =
      lacks f p (name_in k (codes "chunks/000001")) (name_in p.0 (codes "chunks/000001")) e
      (ap (λ (n : ℕ). name_in n (codes "chunks/000001")) is) (λ none. inr (inr (inl none))) d

  pub lacks_tombstones : (f : F) (p : Place) (k : ℕ) (e : BlockFault) → k ≡ p.0
      → DeniesName shows failed f (name_in k (codes "tombstones")) e
      → DeniesFiles shows failed f p e
  lacks_tombstones f p k e is d =
      lacks f p (name_in k (codes "tombstones")) (name_in p.0 (codes "tombstones")) e
      (ap (λ (n : ℕ). name_in n (codes "tombstones")) is) (λ none. inr (inr (inr none))) d

  -- so the block is not read
  pub no_files : (kept : F → List ℕ → ℕ → Type 0) (f : F) (p : Place) (e : BlockFault)
      → DeniesFiles shows failed f p e → DeniesBlock shows kept failed f p e
  no_files kept f p faults.Memory d = tt
  no_files kept f p faults.Medium d = d
  no_files kept f p faults.Missing d = d
  no_files kept f p (faults.Refused e) d = absurd d

  -- and it is one of several
  pub one_denied : (kept : F → List ℕ → ℕ → Type 0) (f : F) (ps : List Place) (i number : ℕ)
      (p : Place) (e : BlockFault) → slice_get ps i ≡ Some p → number ≡ p.0
      → DeniesBlock shows kept failed f p e
      → DeniesOne shows kept failed f ps (record { number = number; fault = e })
  one_denied kept f ps i number p e is numbered d = record {
    before = take i ps;
    place = p;
    after = drop (suc i) ps;
    parts = split_here ps i p is;
    number = numbered;
    refused = d;
  }
