-- Products, quotients of them, and what columns make of them.
use Rattle.std.proofs.Common.{◌≡◌, ℕ, zero, suc, ◌+◌, ◌-◌, ◌*◌, ◌/◌, ◌<◌, ◌≤◌, ◌^◌, arith}
use Rattle.std.proofs.Common.{◌⊎◌, inl, inr, ap, ◌∙◌, add-one, ◌%◌}
use Rattle.std.proofs.Math.Nat.{mul-le-mul, mul-le-mul_right, div-le_of_le-mul}
use Rattle.std.proofs.Math.Nat.{add-mul, one-mul, mul_comm}
use Rattle.std.proofs.Math.Nat.{le-div_iff_mul-le, div-mul-le_self, mul-div_cancel_left}
use Rattle.page_layout.specs.Columns.{edge, IsIn, IsPartition}
use Rattle.page_layout.specs.Layers.{top}

-- a product of two numbers of 64 bits has 128
pub product_fits : (a b : ℕ) → a < 2 ^ 64 → b < 2 ^ 64 → a * b < 2 ^ 128
product_fits a b ha hb =
    let h : a * b ≤ (2 ^ 64 - 1) * (2 ^ 64 - 1) =
    mul-le-mul {n₁ = a} {m₁ = b} {n₂ = 2 ^ 64 - 1} {m₂ = 2 ^ 64 - 1} (omega arith)
    (omega arith) in
    omega arith

-- a part of a count is at most the count
pub share_le : (a b n : ℕ) → 0 < n → a ≤ n → a * b / n ≤ b
share_le a b n some within = div-le_of_le-mul n (mul-le-mul_right b within)

-- a quotient is at least what, times the divisor, is at most the number
at_least : (x y n : ℕ) → 0 < n → x * n ≤ y → x ≤ y / n
at_least x y n some h = (le-div_iff_mul-le some).1 h

div_mono : (a b n : ℕ) → 0 < n → a ≤ b → a / n ≤ b / n
div_mono a b n some h =
    let e : a / n * n ≤ a = div-mul-le_self a n in
    at_least (a / n) b n some (omega arith)

div_below : (x n : ℕ) → 0 < n → x < x / n * n + n
div_below x n some =
    let r : x % n < n = omega arith in
    let e : n * (x / n) + x % n ≡ x = omega arith in
    let c : n * (x / n) ≡ x / n * n = mul_comm n (x / n) in
    omega arith

pub edge_mono : (n k a b : ℕ) → 0 < n → a ≤ b → edge n k a ≤ edge n k b
edge_mono n k a b some h = div_mono (a * k) (b * k) n some (mul-le-mul_right k h)

pub edge_next : (n k j : ℕ) → 0 < n → edge n k j ≤ edge n k (j + 1)
edge_next n k j some = edge_mono n k j (j + 1) some (omega arith)

pub ruleset edges = (product_fits, share_le, edge_next)

-- a layer more, of some things or none, is at least one unit more
pub top_more : (layers below things total room : ℕ) → 0 < total → below ≤ things
    → top layers below total room + 1 ≤ top (layers + 1) things total room
top_more layers below things total room some more =
    let e : below * room / total ≤ things * room / total =
    div_mono (below * room) (things * room) total some (mul-le-mul_right room more) in
    omega arith

-- all things fill the room
pub top_full : (layers total room : ℕ) → 0 < total → top layers total total room ≡ layers + room
top_full layers total room some =
    let e : total * room / total ≡ room = mul-div_cancel_left room some in
    omega arith

-- one is at most the other, or above it
either : (m n : ℕ) → (m ≤ n) ⊎ (n < m)
either zero n = inl (omega arith)
either (suc m) zero = inr (omega arith)
either (suc m) (suc n) = step (either m n)
  where
    step : (m ≤ n) ⊎ (n < m) → (suc m ≤ suc n) ⊎ (suc n < suc m)
    step (inl h) = inl (omega arith)
    step (inr h) = inr (omega arith)

unfoldable Found : ℕ → ℕ → ℕ → ℕ → Type 0
Found n k i m =
    (column : ℕ) × (column < m) × (edge n k column ≤ i) × (i < edge n k (column + 1))

-- the column among the first m in which a thing stands
placed_in : (n k i m : ℕ) → i < edge n k m → Found n k i m
unfolding Found
placed_in n k i zero below =
    let e : 0 * k / n ≤ 0 = div-le_of_le-mul n (omega arith) in absurd (omega arith)
placed_in n k i (suc m) below = pick (either (edge n k m) i) (λ h. placed_in n k i m h)
  where
    pick : (edge n k m ≤ i) ⊎ (i < edge n k m) → (i < edge n k m → Found n k i m)
        → Found n k i (suc m)
    pick (inl h) earlier = (m, omega arith, h, rw add-one below)
    pick (inr h) earlier = let w = earlier h in (w.0, omega arith, w.2, w.3)

-- no thing stands in a column and a later one
apart : (n k i a b : ℕ) → 0 < n → a < b → edge n k b ≤ i → i < edge n k (a + 1) → ⊥
apart n k i a b some less from until =
    let e : edge n k (a + 1) ≤ edge n k b = edge_mono n k (a + 1) b some (omega arith) in
    omega arith

same : (n k i a b : ℕ) → 0 < n → IsIn n k i a → IsIn n k i b → a ≡ b
same n k i a b some p q = pick (either a b) (either b a)
  where
    pick : (a ≤ b) ⊎ (b < a) → (b ≤ a) ⊎ (a < b) → a ≡ b
    pick (inl x) (inl y) = omega arith
    pick (inr x) y = absurd (apart n k i b a some x p.1 q.2)
    pick (inl x) (inr y) = absurd (apart n k i a b some y q.1 p.2)

-- the quotients of two numbers and of their sum
quotients_least : (x y n : ℕ) → 0 < n → x / n + y / n ≤ (x + y) / n
quotients_least x y n some =
    let ex : x / n * n ≤ x = div-mul-le_self x n in
    let ey : y / n * n ≤ y = div-mul-le_self y n in
    at_least (x / n + y / n) (x + y) n some (rw (add-mul (x / n) (y / n) n) (omega arith))

quotients_most : (x y n : ℕ) → 0 < n → (x + y) / n ≤ x / n + y / n + 1
quotients_most x y n some = pick (either ((x + y) / n) (x / n + y / n + 1))
  where
    pick : ((x + y) / n ≤ x / n + y / n + 1) ⊎ (x / n + y / n + 1 < (x + y) / n)
        → (x + y) / n ≤ x / n + y / n + 1
    pick (inl h) = h
    pick (inr h) =
        let more : (x / n + y / n + 2) * n ≤ (x + y) / n * n = mul-le-mul_right n (omega arith) in
        let all : (x + y) / n * n ≤ x + y = div-mul-le_self (x + y) n in
        let shared : (x / n + y / n + 2) * n ≡ x / n * n + y / n * n + 2 * n =
        add-mul (x / n + y / n) 2 n ∙ ap (λ m. m + 2 * n) (add-mul (x / n) (y / n) n) in
        let ex : x < x / n * n + n = div_below x n some in
        let ey : y < y / n * n + n = div_below y n some in
        absurd (omega arith)

pub partition : (columns count : ℕ) → 0 < columns → columns ≤ count → IsPartition columns count
unfolding Found
partition n k some fits = record {
  first = (let e : 0 * k / n ≤ 0 = div-le_of_le-mul n (omega arith) in omega arith);
  last = mul-div_cancel_left k some;
  placed = λ i h.
      let w = placed_in n k i n (rw (mul-div_cancel_left k some) h) in (w.0, (w.1, w.2, w.3));
  once = λ i a b p q. same n k i a b some p q;
  least = λ c. rw (add-mul c 1 k, one-mul k) (quotients_least (c * k) k n some);
  most = λ c. rw (add-mul c 1 k, one-mul k) (quotients_most (c * k) k n some);
  some = at_least 1 k n some (omega arith);
}
