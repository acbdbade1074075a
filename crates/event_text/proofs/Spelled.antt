-- That what is written has a text that is read.
use Rattle.std.proofs.Common.{◌≡◌, ◌+◌, ◌≤◌, ℕ, ℤ, List, [], ◌∷◌, ◌++◌, Some, Result, Ok, Err, take}
use Rattle.std.proofs.Common.{length, sym, subst}
use Rattle.std.specs.Prelude.{OnOk, slice_get}
use Rattle.std.specs.List.{AllByRecursion}
use Rattle.std.proofs.lemmas.List.{length-map, take_all}
use Rattle.labels.specs.Labels.{Labels}
use Rattle.head.specs.Worlds.{Batch}
use Rattle.event_text.specs.Runs.{values_in}
use Rattle.event_text.proofs.Writes.{take_next}

pub always : {A E : Type 0} (r : Result A E) (P : Type 0) → P → OnOk r P
always (Ok x) P p = p
always (Err e) P p = tt

pub on_ok : {A E : Type 0} (r : Result A E) (P Q : Type 0) → (P → Q) → OnOk r P → OnOk r Q
on_ok (Ok x) P Q f p = f p
on_ok (Err e) P Q f p = tt

all_last : {X : Type 0} (P : X → Type 0) (xs : List X) (x : X) → AllByRecursion P xs → P x
    → AllByRecursion P (xs ++ x ∷ [])
all_last P [] x h p = (p, tt)
all_last P (y ∷ xs) x h p = (h.0, all_last P xs x h.1 p)

pub all_next : {X : Type 0} (P : X → Type 0) (xs : List X) (i : ℕ) (x : X) → slice_get xs i ≡ Some x
    → AllByRecursion P (take i xs) → P x → AllByRecursion P (take (i + 1) xs)
all_next P xs i x h all p =
    subst (AllByRecursion P) (sym (take_next xs i x h)) (all_last P (take i xs) x all p)

pub all_whole : {X : Type 0} (P : X → Type 0) (xs : List X) (n : ℕ) → length xs ≤ n
    → AllByRecursion P (take n xs) → AllByRecursion P xs
all_whole P xs n le all = subst (AllByRecursion P) (take_all n xs le) all

pub length-values : (xs : Batch) → length (values_in xs) ≡ length xs
length-values xs = length-map xs (λ (x : Labels × (ℤ × ℤ)). x.1)
