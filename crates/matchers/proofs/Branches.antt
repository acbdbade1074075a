-- Tests and the moves that they choose.
use Rattle.std.proofs.Common.{◌≡◌, ℕ, Bool, true, false, cond, ◌&&◌, ◌||◌, ◌==◌, ◌⊎◌, inl, inr, List, ◌∷◌, Option, None, Some, refl, sym, ap, subst}
use Rattle.std.specs.List.{list_all}
use Rattle.std.specs.Option.{unwrap_or}
use Rattle.std.proofs.lemmas.Bool.Decides.{Decides-eqb}
use Rattle.matchers.specs.Grammar.{is_space}

pub cond_true : {X : Type 0} (t : Bool) (x y : X) → t ≡ true → cond t x y ≡ x
cond_true true x y e = refl
cond_true false x y e = absurd cc

pub cond_false : {X : Type 0} (t : Bool) (x y : X) → t ≡ false → cond t x y ≡ y
cond_false true x y e = absurd cc
cond_false false x y e = refl

-- one of two branches gives what their choice gives
pub either : {X P : Type 0} (t : Bool) (x y r : Option X) → cond t x y ≡ r → (t ≡ true → x ≡ r → P) → (t ≡ false → y ≡ r → P) → P
either true x y r e f g = f refl e
either false x y r e f g = g refl e

pub by_cases : {P : Type 0} (t : Bool) → (t ≡ true → P) → (t ≡ false → P) → P
by_cases true f g = f refl
by_cases false f g = g refl

pub never : {X P : Type 0} (x : X) → None ≡ Some x → P
never x e = absurd cc

pub same_some : {X : Type 0} (x y : X) → Some x ≡ Some y → x ≡ y
same_some x y e = ap (λ o. unwrap_or o x) e

pub both_true : (a b : Bool) → (a && b) ≡ true → (a ≡ true) × (b ≡ true)
both_true true b e = (refl, e)
both_true false b e = absurd cc

pub one_true : (a b : Bool) → (a || b) ≡ true → (a ≡ true) ⊎ (b ≡ true)
one_true true b e = inl refl
one_true false b e = inr e

pub not_true : (t : Bool) → (t ≡ true → ⊥) → t ≡ false
not_true true f = absurd (f refl)
not_true false f = refl

pub all_more : (p : ℕ → Bool) (b : ℕ) (bs : List ℕ) → p b ≡ true → list_all p bs ≡ true → list_all p (b ∷ bs) ≡ true
all_more p b bs e h = rw e h

pub same_number : (a b : ℕ) → (a == b) ≡ true → a ≡ b
same_number a b t = (Decides-eqb a b).0 t

-- a fact at a byte, from the fact at the one that it is
pub at_byte : (P : ℕ → Type 0) (b k : ℕ) → (b == k) ≡ true → P k → P b
at_byte P b k t p = subst P (sym (same_number b k t)) p

-- what fails at each of the four is no space
pub space_fails : (p : ℕ → Bool) → p 32 ≡ false → p 9 ≡ false → p 13 ≡ false → p 10 ≡ false → (b : ℕ) → is_space b ≡ true → p b ≡ false
space_fails p e32 e9 e13 e10 b t =
    let P : ℕ → Type 0 = λ x. p x ≡ false in
    elim (one_true ((b == 32 || b == 9) || b == 13) (b == 10) t) [
      | inl t3 ↦ elim (one_true (b == 32 || b == 9) (b == 13) t3) [
        | inl t2 ↦ elim (one_true (b == 32) (b == 9) t2) [
          | inl t1 ↦ at_byte P b 32 t1 e32
          | inr t1 ↦ at_byte P b 9 t1 e9
        ]
        | inr t2 ↦ at_byte P b 13 t2 e13
      ]
      | inr t3 ↦ at_byte P b 10 t3 e10
    ]

clash : (t : Bool) → t ≡ true → t ≡ false → ⊥
clash t e f = cc

pub no_space : (p : ℕ → Bool) → p 32 ≡ false → p 9 ≡ false → p 13 ≡ false → p 10 ≡ false → (b : ℕ) → p b ≡ true → is_space b ≡ false
no_space p e32 e9 e13 e10 b e = not_true (is_space b) (λ t. clash (p b) e (space_fails p e32 e9 e13 e10 b t))
