-- Two texts that are compared byte by byte.
use Rattle.std.proofs.Common.{◌≡◌, ℕ, true, false, refl, sym, ap, ◌∙◌, List, [], ◌∷◌, length}
use Rattle.std.proofs.Common.{arith, nat_eq}
use Rattle.std.proofs.lemmas.Bool.Decides.{nat_tests}
use Rattle.std.specs.Prelude.{Bool, ◌&&◌, ◌==◌}
use Rattle.std.specs.Str.{bytes_eq}

and_assoc : (a b c : Bool) → ((a && b) && c) ≡ (a && (b && c))
and_assoc false b c = refl
and_assoc true b c = refl

and_false : (a : Bool) → (a && false) ≡ false
and_false false = refl
and_false true = refl

eq_nothing : (xs : List ℕ) → bytes_eq [] xs ≡ (length xs == 0)
eq_nothing [] = refl
eq_nothing (x ∷ xs) = grind (arith, nat_tests)

-- a byte more
pub one_more : (a b c d : List ℕ) (x y : ℕ) (same r : Bool) → a ≡ x ∷ c → b ≡ y ∷ d
    → (same && bytes_eq a b) ≡ r → ((same && nat_eq x y) && bytes_eq c d) ≡ r
one_more a b c d x y same r e f h =
    and_assoc same (nat_eq x y) (bytes_eq c d) ∙ (rw (e, f) at h)

-- the second is the shorter one
pub shorter : (a b c : List ℕ) (x : ℕ) (same r : Bool) → a ≡ x ∷ c → b ≡ []
    → (same && bytes_eq a b) ≡ r → false ≡ r
shorter a b c x same r e f h = sym (and_false same) ∙ (rw (e, f) at h)

-- the first is read
pub all_read : (a b : List ℕ) (same r : Bool) → a ≡ [] → (same && bytes_eq a b) ≡ r
    → (same && (length b == 0)) ≡ r
all_read a b same r e h = ap (λ (t : Bool). same && t) (sym (eq_nothing b)) ∙ (rw e at h)
