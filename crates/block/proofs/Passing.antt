-- A search of a list that goes on, and a list of what is kept that grows.
use Rattle.std.proofs.Common.{◌≡◌, ℕ, zero, suc, ◌+◌, ◌<◌, ◌≤◌, Bool, true, false, cond, ◌&&◌, ◌||◌}
use Rattle.std.proofs.Common.{List, [], ◌∷◌, ◌++◌, length, get_or, drop, refl, sym, ap, ◌∙◌}
use Rattle.std.proofs.Common.{append_assoc, arith}
use Rattle.std.specs.List.{filter, list_any, AllByRecursion}
use Rattle.std.proofs.lemmas.List.{drop_more, drop_all, append-nil}

module _ {X : Type 0} (p : X → Bool) (xs : List X) where
  pub any_passed : (i : ℕ) (d : X) → i < length xs → p (get_or xs i d) ≡ false
      → list_any p (drop (i + 1) xs) ≡ list_any p (drop i xs)
  any_passed i d l e =
      sym (ap (list_any p) (drop_more xs i d l) ∙ ap (λ b. b || list_any p (drop (i + 1) xs)) e)

  pub any_found : (i : ℕ) (d : X) → i < length xs → p (get_or xs i d) ≡ true
      → list_any p (drop i xs) ≡ true
  any_found i d l e =
      ap (list_any p) (drop_more xs i d l) ∙ ap (λ b. b || list_any p (drop (i + 1) xs)) e

  pub any_ended : (i : ℕ) → length xs ≤ i → list_any p (drop i xs) ≡ false
  any_ended i l = ap (list_any p) (drop_all i xs l)

  pub kept_one : (i : ℕ) (d : X) (before after all : List X) → i < length xs
      → p (get_or xs i d) ≡ true → after ≡ before ++ get_or xs i d ∷ []
      → before ++ filter p (drop i xs) ≡ all → after ++ filter p (drop (i + 1) xs) ≡ all
  kept_one i d before after all l e f h =
      ap (λ (ys : List X). ys ++ filter p (drop (i + 1) xs)) f
      ∙ append_assoc before (get_or xs i d ∷ []) (filter p (drop (i + 1) xs))
      ∙ ap (λ (ys : List X). before ++ ys) (sym (ap (filter p) (drop_more xs i d l)
      ∙ ap (λ b. cond b (get_or xs i d ∷ filter p (drop (i + 1) xs)) (filter p (drop (i + 1) xs)))
      e))
      ∙ h

  pub kept_none : (i : ℕ) (d : X) (before all : List X) → i < length xs → p (get_or xs i d) ≡ false
      → before ++ filter p (drop i xs) ≡ all → before ++ filter p (drop (i + 1) xs) ≡ all
  kept_none i d before all l e h =
      ap (λ (ys : List X). before ++ ys) (sym (ap (filter p) (drop_more xs i d l)
      ∙ ap (λ b. cond b (get_or xs i d ∷ filter p (drop (i + 1) xs)) (filter p (drop (i + 1) xs)))
      e))
      ∙ h

  pub kept_ended : (i : ℕ) (before all : List X) → length xs ≤ i
      → before ++ filter p (drop i xs) ≡ all → before ≡ all
  kept_ended i before all l h =
      sym (ap (λ (ys : List X). before ++ filter p ys) (drop_all i xs l) ∙ append-nil before) ∙ h

  pub kept_nothing : AllByRecursion (λ x. p x ≡ false) xs → filter p xs ≡ []
  kept_nothing h = go xs h
    where
      go : (ys : List X) → AllByRecursion (λ x. p x ≡ false) ys → filter p ys ≡ []
      go [] a = refl
      go (y ∷ ys) a = ap (λ b. cond b (y ∷ filter p ys) (filter p ys)) a.0 ∙ go ys a.1

pub held_at : {X : Type 0} (P : X → Type 0) (xs : List X) (i : ℕ) (d : X) → i < length xs
    → AllByRecursion P xs → P (get_or xs i d)
held_at P [] i d l a = absurd (omega (arith, l))
held_at P (x ∷ xs) zero d l a = a.0
held_at P (x ∷ xs) (suc i) d l a = held_at P xs i d (omega (arith, l)) a.1

pub and_false : (b : Bool) → (b && false) ≡ false
and_false true = refl
and_false false = refl

pub or_true : (a b : Bool) → b ≡ true → (a || b) ≡ true
or_true true b e = refl
or_true false b e = e
