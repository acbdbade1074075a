-- Bits of a number by its lowest bytes.
use Rattle.std.proofs.Common.{◌/◌, ◌%◌, ◌≡◌, ℕ, zero, suc, ◌+◌, ◌-◌, ◌*◌, ◌^◌, ◌<◌, ◌≤◌, List, ◌∷◌, ◌++◌, take, refl, sym, ap, ◌∙◌, arith}
use Rattle.std.proofs.Math.Nat.{div-one, mod-eq_of_lt, mod-lt, add-mul-mod_self_left, one-le-pow, pow-suc}
use Rattle.std.proofs.Math.Pow.{mod-mod-pow}
use Rattle.std.proofs.lemmas.Nat.{field_of, pow-add}
use Rattle.std.specs.Int.{byte_at, bytes_low_first}
use Rattle.byteorder.specs.Endian.{little_from}
use Rattle.byteorder.specs.Numbers.{little_from-bytes}
use Rattle.packed_chunks.specs.Packed.{bits_of}

-- two ways to write the size of n bytes
pub pow256 : (n : ℕ) → 256 ^ n ≡ 2 ^ (8 * n)
pow256 zero = refl
pow256 (suc n) =
    let e : 8 * suc n ≡ 8 * n + 8 = omega arith in
    rw (pow-suc 256 n, pow256 n, e, pow-add 2 (8 * n) 8) refl

-- a number of a + b bytes is that of the first a and that of the b after them
split : (a b i : ℕ) (xs : List ℕ) → (rest : ℕ) × (little_from i (a + b) xs ≡ little_from i a xs + 256 ^ a * rest)
split zero b i xs = (little_from i b xs, let e : zero + b ≡ b = omega arith in rw e (omega arith))
split (suc a) b i xs =
    let ih = split a b (suc i) xs in
    let rest = ih.0 in
    let h : little_from (suc i) (a + b) xs ≡ little_from (suc i) a xs + 256 ^ a * rest = ih.1 in
    let e : suc a + b ≡ suc (a + b) = omega arith in
    (rest, rw (e, h, pow-suc 256 a) (grind arith))

-- eight bytes that begin with the lowest m of a number have its lowest bits
pub low_word : (m n : ℕ) (more : List ℕ) → m ≤ 8
    → little_from 0 8 (bytes_low_first 0 m n ++ more) % 2 ^ (8 * m) ≡ n % 2 ^ (8 * m)
low_word m n more le =
    let xs = bytes_low_first 0 m n ++ more in
    let e : m + (8 - m) ≡ 8 = omega arith in
    let parts = split m (8 - m) 0 xs in
    let whole : little_from 0 8 xs ≡ little_from 0 m xs + 256 ^ m * parts.0 =
    ap (λ (k : ℕ). little_from 0 k xs) (sym e) ∙ parts.1 in
    let low : little_from 0 m xs ≡ n % 256 ^ m =
    little_from-bytes m 0 n more ∙ ap (λ (y : ℕ). y % 256 ^ m) (div-one n) in
    let some : 0 < 256 ^ m = one-le-pow m 256 (omega arith) in
    rw (sym (pow256 m)) (
    ap (λ (x : ℕ). x % 256 ^ m) whole
    ∙ add-mul-mod_self_left (little_from 0 m xs) (256 ^ m) parts.0
    ∙ ap (λ (x : ℕ). x % 256 ^ m) low
    ∙ mod-eq_of_lt (mod-lt n some))

-- bits below K are those of a number that is the same below K
pub same_bits : (skipped many k x y : ℕ) → skipped + many ≤ k → x % 2 ^ k ≡ y % 2 ^ k
    → bits_of skipped many x ≡ bits_of skipped many y
same_bits s b k x y le e =
    let above = k - (b + s) in
    let at : above + (b + s) ≡ k = omega arith in
    let lower : (n : ℕ) → n % 2 ^ k % 2 ^ (b + s) ≡ n % 2 ^ (b + s) =
    λ (n : ℕ). ap (λ (j : ℕ). n % 2 ^ j % 2 ^ (b + s)) (sym at) ∙ mod-mod-pow n above (b + s) in
    let same : x % 2 ^ (b + s) ≡ y % 2 ^ (b + s) =
    sym (lower x) ∙ ap (λ (z : ℕ). z % 2 ^ (b + s)) e ∙ lower y in
    sym (field_of x b s) ∙ ap (λ (z : ℕ). z / 2 ^ s) same ∙ field_of y b s

-- the lowest n bytes of a number are the first of its lowest k
pub take_bytes : (i k n x : ℕ) → n ≤ k → take n (bytes_low_first i k x) ≡ bytes_low_first i n x
take_bytes i k zero x h = refl
take_bytes i zero (suc n) x h = absurd (omega arith)
take_bytes i (suc k) (suc n) x h =
    ap (λ (r : List ℕ). byte_at i x ∷ r) (take_bytes (suc i) k n x (omega arith))
