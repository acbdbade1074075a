-- The tests of what events are made of.
use Rattle.std.specs.Prelude.{◌≡◌, ◌≤◌, ℕ, Bool, ◌&&◌, nat_le}
use Rattle.std.proofs.Common.{sym, ap, arith, inl, inr}
use Rattle.std.proofs.lemmas.Bool.Decides.{leb_tells}

pub with_few : (n m : ℕ) (b : Bool) → n ≤ m → b ≡ (nat_le n m && b)
with_few n m b h = elim (leb_tells n m) [
  | inl t ↦ ap (λ a. a && b) (sym t.0)
  | inr f ↦ absurd (let above = f.1 in omega arith)
]
