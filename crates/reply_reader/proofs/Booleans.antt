-- Tests that hold together, and of each element of a list.
use Rattle.std.proofs.Common.{◌≡◌, Bool, true, false, ◌⊎◌, inl, inr, List, [], ◌∷◌, refl, subst}
use Rattle.std.specs.Prelude.{◌&&◌, ◌||◌, not}
use Rattle.std.specs.List.{list_all, Contains}
use Rattle.labels.proofs.Lists.{here, there, Contains-cases, none_in_nil}

pub and_left : (x y : Bool) → (x && y) ≡ true → x ≡ true
and_left true y h = refl
and_left false y h = h

pub and_right : (x y : Bool) → (x && y) ≡ true → y ≡ true
and_right true y h = h
and_right false y h = cc

pub and_both : (x y : Bool) → x ≡ true → y ≡ true → (x && y) ≡ true
and_both x y e f = rw (e, f) refl

pub or_cases : (x y : Bool) → (x || y) ≡ true → (x ≡ true) ⊎ (y ≡ true)
or_cases true y h = inl refl
or_cases false y h = inr h

pub or_left : (x y : Bool) → x ≡ true → (x || y) ≡ true
or_left x y e = rw e refl

pub or_right : (x y : Bool) → y ≡ true → (x || y) ≡ true
or_right true y e = refl
or_right false y e = e

pub not_true : (x : Bool) → not x ≡ true → x ≡ false
not_true true h = cc
not_true false h = refl

pub true_not : (x : Bool) → x ≡ false → not x ≡ true
true_not x e = rw e refl

-- of a test either outcome
pub either : (x : Bool) → (x ≡ true) ⊎ (x ≡ false)
either true = inl refl
either false = inr refl

pub all_true : {X : Type 0} (p : X → Bool) (xs : List X) → list_all p xs ≡ true → (x : X)
    → Contains xs x → p x ≡ true
all_true p [] h x c = absurd (none_in_nil x c)
all_true {X} p (y ∷ ys) h x c = elim (Contains-cases y ys x c) [
  | inl e ↦ subst (λ (z : X). p z ≡ true) e (and_left (p y) (list_all p ys) h)
  | inr d ↦ all_true p ys (and_right (p y) (list_all p ys) h) x d
]

pub true_all : {X : Type 0} (p : X → Bool) (xs : List X) → ((x : X) → Contains xs x → p x ≡ true)
    → list_all p xs ≡ true
true_all p [] h = refl
true_all p (y ∷ ys) h =
    and_both (p y) (list_all p ys) (h y (here y ys)) (true_all p ys (λ x c. h x (there y x ys c)))
