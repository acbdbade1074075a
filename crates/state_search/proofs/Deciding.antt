-- Why the first state that has all decides, and why halving finds it.
use Rattle.std.proofs.Common.{◌≡◌, ℕ, ◌+◌, ◌<◌, ◌≤◌, Bool, true, false, IsTrue, ◌↔◌, sym, ◌∙◌, arith}
use Rattle.state_search.specs.Firsts.{IsFirst, IsNowhere}

-- what goes on once it holds does not hold before a place where it does not
pub none_below : (holds_at : ℕ → Type 0) (from until m : ℕ) → ((p q : ℕ) → from ≤ p → p ≤ q → q ≤ until → holds_at p → holds_at q) → m ≤ until → (holds_at m → ⊥) → (p : ℕ) → from ≤ p → p < m + 1 → holds_at p → ⊥
none_below holds_at from until m stays l lacks p a b h = lacks (stays p m a (omega arith) l h)

pub nowhere : (holds_at : ℕ → Type 0) (from until : ℕ) → ((p q : ℕ) → from ≤ p → p ≤ q → q ≤ until → holds_at p → holds_at q) → (holds_at until → ⊥) → IsNowhere holds_at from until
nowhere holds_at from until stays lacks p a b h = lacks (stays p until a b (omega arith) h)

-- what is sound somewhere is sound at the first that has all
pub decides : (shows sound : ℕ → Type 0) (from until n : ℕ) → ((p : ℕ) → sound p → shows p) → ((p q : ℕ) → from ≤ p → p ≤ q → q ≤ until → shows p → sound q → sound p) → IsFirst shows from until n → (sound n → ⊥) → IsNowhere sound from until
decides shows sound from until n has first f lacks p a b h =
    let early : p < n → ⊥ = λ l. f.before p a l (has p h) in
    let l : n ≤ p = omega arith in
    lacks (first n p f.above l b f.holds h)

-- nothing is sound where nothing has all
pub unsound : (shows sound : ℕ → Type 0) (from until : ℕ) → ((p : ℕ) → sound p → shows p) → IsNowhere shows from until → IsNowhere sound from until
unsound shows sound from until has none p a b h = none p a b (has p h)

pub is_not : {P : Type 0} (b : Bool) → b ≡ false → IsTrue b ↔ P → P → ⊥
is_not b lacks both p = let k : true ≡ false = sym (both.1 p) ∙ lacks in cc
