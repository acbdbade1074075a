use Rattle.std.proofs.Common.{◌≡◌, ◌&&◌, ℕ, true, nat_eq, Decides, subst, arith}
use Rattle.std.proofs.lemmas.Bool.Decides.{nat_tests}
use Rattle.std.proofs.lemmas.Slice.Eq.{slice_eq-Decides}
use Rattle.index_reader.proofs.keys.are_same_labels.Goals as goal

told : (a b : ℕ × ℕ) → (nat_eq a.0 b.0 && nat_eq a.1 b.1) ≡ true → a ≡ b
told a b e = grind (arith, nat_tests)

itself : (a : ℕ × ℕ) → (nat_eq a.0 a.0 && nat_eq a.1 a.1) ≡ true
itself a = grind (arith, nat_tests)

decided : (a b : ℕ × ℕ) → Decides (nat_eq a.0 b.0 && nat_eq a.1 b.1) (a ≡ b)
decided a b = (told a b, λ same. subst (λ (x : ℕ × ℕ). (nat_eq a.0 x.0 && nat_eq a.1 x.1) ≡ true) same (itself a))

pub returns : goal.returns
returns c = (slice_eq-Decides decided _ _ _ c.eq.ensures).0
