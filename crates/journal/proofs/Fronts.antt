-- Fronts of bytes that grow.
use Rattle.std.proofs.Common.{◌≡◌, inl, inr, ℕ, ◌≤◌, true, false, List, ◌++◌, length, take, drop}
use Rattle.std.proofs.Common.{Result, Ok, Err, refl, sym, ap, subst, ◌∙◌, append_assoc, arith}
use Rattle.std.specs.Prelude.{OnOk, OnErr, is_ok, is_err}
use Rattle.std.proofs.lemmas.Bool.{cases_lt}
use Rattle.std.proofs.lemmas.List.{take-append-drop, take_all, take_at, length-append, length-take}
use Rattle.journal.specs.Media.{MayLeave}
use Rattle.journal.proofs.Files.{take_within}

pub from_ok : {A E : Type 0} (r : Result A E) (P : Type 0) → is_ok r ≡ true → OnOk r P → P
from_ok (Ok x) P h p = p
from_ok (Err e) P h p = absurd cc

pub from_err : {A E : Type 0} (r : Result A E) (P : Type 0) → is_ok r ≡ false → OnErr r P → P
from_err (Ok x) P h p = absurd cc
from_err (Err e) P h p = p

-- a front of the bytes is one of longer bytes
pub front_of_more : (s : ℕ) (a b c : List ℕ) → s ≤ length a → MayLeave s a c → MayLeave s (a ++ b) c
front_of_more s a b c le m =
    elim (cases_lt m.n (length a)) [
      | inl lt ↦ record {
        n = m.n;
        kept = m.kept;
        front = m.front ∙ sym (take_within m.n a b (omega arith));
      }
      | inr past ↦ record {
        n = length a;
        kept = le;
        front = m.front ∙ (take_all m.n a past ∙ sym (take_at a b (length a) refl));
      }
    ]

pub front_of_part : (s k : ℕ) (a b c : List ℕ) → s ≤ length a → MayLeave s (a ++ take k b) c
    → MayLeave s (a ++ b) c
front_of_part s k a b c le m =
    let split : (a ++ take k b) ++ drop k b ≡ a ++ b =
    append_assoc a (take k b) (drop k b) ∙ ap (λ (x : List ℕ). a ++ x) (take-append-drop k b) in
    subst (λ (x : List ℕ). MayLeave s x c) split
    (front_of_more s (a ++ take k b) (drop k b) c (omega (arith, length-append a (take k b))) m)

pub from_less : (s t : ℕ) (a c : List ℕ) → s ≤ t → MayLeave t a c → MayLeave s a c
from_less s t a c le m = record { n = m.n; kept = omega (arith, m.kept); front = m.front }

pub from_not_err : {A E : Type 0} (r : Result A E) (P : Type 0) → is_err r ≡ false → OnOk r P → P
from_not_err (Ok x) P h p = p
from_not_err (Err e) P h p = absurd cc

-- what a cut left is a front of what was there
pub front_of_cut : (s len : ℕ) (a c : List ℕ) → s ≤ len → MayLeave len (take len a) c
    → MayLeave s a c
front_of_cut s len a c le m = record {
  n = len;
  kept = le;
  front = m.front ∙ take_all m.n (take len a) (omega (arith, m.kept, length-take len a));
}

pub on_ok : {A E : Type 0} (r : Result A E) (P Q R S : Type 0) → (P → Q → R → S) → OnOk r P
    → OnOk r Q → OnOk r R → OnOk r S
on_ok (Ok x) P Q R S f p q s = f p q s
on_ok (Err e) P Q R S f p q s = tt
