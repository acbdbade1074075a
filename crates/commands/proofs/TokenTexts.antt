-- The end of a line behind a token.
use Rattle.std.proofs.Common.{◌≡◌, ℕ, true, false, List, [], ◌∷◌, ◌++◌, length, refl, sym, ap}
use Rattle.std.proofs.Common.{◌∙◌, arith}
use Rattle.std.specs.Prelude.{Bool, ◌==◌, if◌then◌else◌}
use Rattle.commands.specs.Guarding.{without_end}

cons_if : (b : Bool) (y : ℕ) (xs ys : List ℕ)
    → (y ∷ (if b then xs else ys)) ≡ (if b then y ∷ xs else y ∷ ys)
cons_if true y xs ys = refl
cons_if false y xs ys = refl

-- what a byte at the end does
ended : (front : List ℕ) (x : ℕ)
    → without_end (front ++ x ∷ []) ≡ (if x == 10 then front else front ++ x ∷ [])
ended [] x = refl
ended (y ∷ []) x = cons_if (x == 10) y [] (x ∷ [])
ended (y ∷ z ∷ zs) x =
    ap (λ (l : List ℕ). y ∷ l) (ended (z ∷ zs) x)
    ∙ cons_if (x == 10) y (z ∷ zs) (z ∷ zs ++ x ∷ [])

pub none_ended : (bytes : List ℕ) → length bytes ≡ 0 → bytes ≡ without_end bytes
none_ended [] e = refl
none_ended (x ∷ xs) e = absurd (omega arith)

pub line_ended : (bytes front : List ℕ) (x : ℕ) → bytes ≡ front ++ x ∷ [] → x ≡ 10
    → front ≡ without_end bytes
line_ended bytes front x is end =
    rw is (sym (ended front x ∙ rw end refl))

pub no_end : (bytes front : List ℕ) (x : ℕ) → bytes ≡ front ++ x ∷ [] → (x == 10) ≡ false
    → bytes ≡ without_end bytes
no_end bytes front x is other = rw is (sym (ended front x ∙ rw other refl))

pub ruleset line_ends = (none_ended, line_ended, no_end)
