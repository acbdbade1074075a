-- The register is linear, so it can be taken a byte, or a word, at a time.
use Rattle.std.proofs.Common.{◌≡◌, ℕ, zero, suc, ◌+◌, ◌*◌, ◌/◌, ◌%◌, ◌^◌, ◌<◌, ◌≤◌, List, [], ◌∷◌}
use Rattle.std.proofs.Common.{refl, sym, ap, ◌∙◌, arith, inl, inr, ◌⊎◌, bit_xor}
use Rattle.std.proofs.Math.Nat.{pow-suc, mul_assoc}
use Rattle.std.proofs.Math.Seq.{drop-cons}
use Rattle.std.specs.Int.{w32, from_le_bytes}
use Rattle.std.specs.Prelude.{bit_and, slice_index, length, drop}
use Rattle.std.proofs.lemmas.Bool.{cases_lt}
use Rattle.std.proofs.lemmas.Nat.{and_mask, shr-shr, xor_shr, xor_mod, shr_split, xor_comm, pow_pos}
use lib.Bits.{xor_assoc, xor_zero_r, xor_shifted}
use Rattle.wire.specs.Checksum.{shifted_once, shifted, register}

parity : (n : ℕ) → (n % 2 ≡ 0) ⊎ (n % 2 ≡ 1)
parity n = elim (cases_lt (n % 2) 1) [ inl lt ↦ inl (omega arith) | inr le ↦ inr (omega arith) ]

-- (a ^ p) ^ (b ^ q), regrouped
regroup : (a p b q : ℕ) → bit_xor (bit_xor a p) (bit_xor b q) ≡ bit_xor (bit_xor a b) (bit_xor p q)
regroup a p b q =
    xor_assoc a p (bit_xor b q)
    ∙ ap (bit_xor a)
    (sym (xor_assoc p b q) ∙ ap (λ (x : ℕ). bit_xor x q) (xor_comm p b) ∙ xor_assoc b p q)
    ∙ sym (xor_assoc a b (bit_xor p q))

-- what is added where the lowest bit is 1
abbrev added : ℕ → ℕ
added bit = bit * 0x82F6_3B78

once_is : (c : ℕ) → shifted_once c ≡ bit_xor (c / 2) (added (c % 2))
unfolding shifted_once
once_is c =
    elim (parity c) [
      | inl e ↦ rw (e, xor_zero_r (c / 2)) refl
      | inr e ↦ rw e refl
    ]

added_xor : (a b : ℕ) → (a % 2 ≡ 0) ⊎ (a % 2 ≡ 1) → (b % 2 ≡ 0) ⊎ (b % 2 ≡ 1)
    → added (bit_xor (a % 2) (b % 2)) ≡ bit_xor (added (a % 2)) (added (b % 2))
added_xor a b (inl e) (inl f) = rw (e, f) refl
added_xor a b (inl e) (inr f) = rw (e, f) refl
added_xor a b (inr e) (inl f) = rw (e, f) refl
added_xor a b (inr e) (inr f) = rw (e, f) refl

pub once_linear : (a b : ℕ) → shifted_once (bit_xor a b) ≡ bit_xor (shifted_once a) (shifted_once b)
once_linear a b =
    once_is (bit_xor a b)
    ∙ ap (λ (x : ℕ). bit_xor x (added (bit_xor a b % 2))) (xor_shr a b 1)
    ∙ ap (λ (x : ℕ). bit_xor (bit_xor (a / 2) (b / 2)) (added x)) (xor_mod a b 1)
    ∙ ap (bit_xor (bit_xor (a / 2) (b / 2))) (added_xor a b (parity a) (parity b))
    ∙ sym (regroup (a / 2) (added (a % 2)) (b / 2) (added (b % 2)))
    ∙ sym (ap (λ (x : ℕ). bit_xor x (shifted_once b)) (once_is a)
    ∙ ap (bit_xor (bit_xor (a / 2) (added (a % 2)))) (once_is b))

pub linear : (k a b : ℕ) → shifted k (bit_xor a b) ≡ bit_xor (shifted k a) (shifted k b)
unfolding shifted
linear zero a b = refl
linear (suc k) a b = ap (shifted k) (once_linear a b) ∙ linear k (shifted_once a) (shifted_once b)

once_double : (a : ℕ) → shifted_once (a * 2) ≡ a
once_double a =
    let even : (a * 2) % 2 ≡ 0 = omega arith in
    let half : (a * 2) / 2 ≡ a = omega arith in
    once_is (a * 2) ∙ rw (even, half) (xor_zero_r a)

-- zeros below come out first
pub undone : (k a : ℕ) → shifted k (a * 2 ^ k) ≡ a
unfolding shifted
undone zero a = omega arith
undone (suc k) a =
    let e : a * 2 ^ suc k ≡ (a * 2 ^ k) * 2 =
    ap (λ (x : ℕ). a * x) (pow-suc 2 k) ∙ sym (mul_assoc a (2 ^ k) 2) in
    ap (λ (x : ℕ). shifted k (shifted_once x)) e
    ∙ ap (shifted k) (once_double (a * 2 ^ k))
    ∙ undone k a

pub shifted-add : (j k a : ℕ) → shifted (j + k) a ≡ shifted k (shifted j a)
unfolding shifted
shifted-add zero k a =
    let e : zero + k ≡ k = omega arith in
    ap (λ (n : ℕ). shifted n a) e
shifted-add (suc j) k a =
    let e : suc j + k ≡ suc (j + k) = omega arith in
    ap (λ (n : ℕ). shifted n a) e ∙ shifted-add j k (shifted_once a)

-- n zeros below and then k more steps
pub past : (n k a : ℕ) → shifted (n + k) (a * 2 ^ n) ≡ shifted k a
past n k a = shifted-add n k (a * 2 ^ n) ∙ ap (shifted k) (undone n a)

-- a number as the xor of what stands above n bits and what stands below
pub split : (n x : ℕ) → x ≡ bit_xor (x / 2 ^ n * 2 ^ n) (x % 2 ^ n)
split n x =
    sym (shr_split x n) ∙ sym (xor_shifted (x / 2 ^ n) n (x % 2 ^ n) (omega (arith, pow_pos n)))

-- the low n bits and the rest, each by itself
pub apart : (n k x : ℕ)
    → shifted (n + k) x ≡ bit_xor (shifted (n + k) (x % 2 ^ n)) (shifted k (x / 2 ^ n))
apart n k x =
    ap (shifted (n + k)) (split n x) ∙ linear (n + k) (x / 2 ^ n * 2 ^ n) (x % 2 ^ n)
    ∙ ap (λ (y : ℕ). bit_xor y (shifted (n + k) (x % 2 ^ n))) (past n k (x / 2 ^ n))
    ∙ xor_comm (shifted k (x / 2 ^ n)) (shifted (n + k) (x % 2 ^ n))

pub apart_at : (m n k x : ℕ) → m ≡ n + k
    → shifted m x ≡ bit_xor (shifted m (x % 2 ^ n)) (shifted k (x / 2 ^ n))
apart_at m n k x e = rw e (apart n k x)

-- the low byte and the rest
pub byte_apart : (x : ℕ) → shifted 8 x ≡ bit_xor (shifted 8 (bit_and x 255)) (x / 256)
unfolding shifted
byte_apart x = rw (and_mask x 8) (apart 8 0 x)

-- the four bytes of a word
pub word_apart : (k x : ℕ) → shifted (k + 32) x
    ≡ bit_xor (shifted (k + 32) (bit_and x 255)) (bit_xor (shifted (k + 24) (bit_and (x / 2 ^ 8)
    255)) (bit_xor (shifted (k + 16) (bit_and (x / 2 ^ 16) 255)) (shifted (k + 8) (x / 2 ^ 24))))
word_apart k x =
    let a = apart_at (k + 32) 8 (k + 24) x (omega arith) in
    let b = apart_at (k + 24) 8 (k + 16) (x / 2 ^ 8) (omega arith) in
    let d = apart_at (k + 16) 8 (k + 8) (x / 2 ^ 16) (omega arith) in
    let b2 : x / 2 ^ 8 / 2 ^ 8 ≡ x / 2 ^ 16 = shr-shr x 8 8 in
    let d2 : x / 2 ^ 16 / 2 ^ 8 ≡ x / 2 ^ 24 = shr-shr x 16 8 in
    rw (and_mask x 8, and_mask (x / 2 ^ 8) 8, and_mask (x / 2 ^ 16) 8)
    (a
    ∙ ap (bit_xor (shifted (k + 32) (x % 2 ^ 8))) (b
    ∙ ap (bit_xor (shifted (k + 24) (x / 2 ^ 8 % 2 ^ 8))) (rw b2 d
    ∙ ap (λ (y : ℕ). bit_xor (shifted (k + 16) (x / 2 ^ 16 % 2 ^ 8)) (shifted (k + 8) y)) d2)))

-- a byte goes in at the bottom, and what stands above it comes in after eight steps
pub absorbed : (m k c w b : ℕ) → m ≡ 8 + k → b < 256
    → shifted m (bit_xor c (w * 2 ^ 8 + b)) ≡ shifted k (bit_xor (shifted 8 (bit_xor c b)) w)
absorbed m k c w b e lt =
    let parts : w * 2 ^ 8 + b ≡ bit_xor b (w * 2 ^ 8) =
    sym (xor_shifted w 8 b lt) ∙ xor_comm (w * 2 ^ 8) b in
    let regrouped : bit_xor c (w * 2 ^ 8 + b) ≡ bit_xor (bit_xor c b) (w * 2 ^ 8) =
    ap (bit_xor c) parts ∙ sym (xor_assoc c b (w * 2 ^ 8)) in
    ap (λ (n : ℕ). shifted n (bit_xor c (w * 2 ^ 8 + b))) e
    ∙ shifted-add 8 k (bit_xor c (w * 2 ^ 8 + b))
    ∙ ap (λ (y : ℕ). shifted k (shifted 8 y)) regrouped
    ∙ ap (shifted k) (linear 8 (bit_xor c b) (w * 2 ^ 8)
    ∙ ap (bit_xor (shifted 8 (bit_xor c b))) (undone 8 w))

-- four bytes, the lowest first
abbrev pub word : ℕ → ℕ → ℕ → ℕ → ℕ
word a b d e = ((e * 2 ^ 8 + d) * 2 ^ 8 + b) * 2 ^ 8 + a

pub word_in : (c a b d e : ℕ) (bytes : List ℕ) → a < 256 → b < 256 → d < 256 → e < 256
    → register c (a ∷ b ∷ d ∷ e ∷ bytes) ≡ register (shifted 32 (bit_xor c (word a b d e))) bytes
unfolding register
word_in c a b d e bytes ha hb hd he =
    ap (λ (x : ℕ). register x bytes) (sym (
    absorbed 32 24 c ((e * 2 ^ 8 + d) * 2 ^ 8 + b) a refl ha
    ∙ absorbed 24 16 (shifted 8 (bit_xor c a)) (e * 2 ^ 8 + d) b refl hb
    ∙ absorbed 16 8 (shifted 8 (bit_xor (shifted 8 (bit_xor c a)) b)) e d refl hd))

pub two_words_in : (c a b d e f g h i : ℕ) (bytes : List ℕ) → a < 256 → b < 256 → d < 256 → e < 256
    → f < 256 → g < 256 → h < 256 → i < 256
    → register c (a ∷ b ∷ d ∷ e ∷ f ∷ g ∷ h ∷ i ∷ bytes)
    ≡ register (bit_xor (shifted 64 (bit_xor c (word a b d e))) (shifted 32 (word f g h i))) bytes
two_words_in c a b d e f g h i bytes ha hb hd he hf hg hh hi =
    let x = bit_xor c (word a b d e) in
    let twice : shifted 64 x ≡ shifted 32 (shifted 32 x) = shifted-add 32 32 x in
    word_in c a b d e (f ∷ g ∷ h ∷ i ∷ bytes) ha hb hd he
    ∙ word_in (shifted 32 x) f g h i bytes hf hg hh hi
    ∙ ap (λ (y : ℕ). register y bytes) (linear 32 (shifted 32 x) (word f g h i)
    ∙ ap (λ (y : ℕ). bit_xor y (shifted 32 (word f g h i))) (sym twice))

-- the bytes from a place on, the first of them apart
drop_at_more : (xs : List ℕ) (i j : ℕ) → i < length xs → j ≡ suc i
    → drop i xs ≡ slice_index xs i ∷ drop j xs
drop_at_more xs i j lt e = rw e (drop-cons xs i 0 lt)

pub drop_eight : (xs : List ℕ) (i : ℕ) → i + 8 ≤ length xs
    → drop i xs ≡ slice_index xs i ∷ slice_index xs (i + 1) ∷ slice_index xs (i + 2)
    ∷ slice_index xs (i + 3) ∷ slice_index xs (i + 4) ∷ slice_index xs (i + 5)
    ∷ slice_index xs (i + 6) ∷ slice_index xs (i + 7) ∷ drop (i + 8) xs
drop_eight xs i le =
    let e0 = drop_at_more xs i (i + 1) (omega arith) (omega arith) in
    let e1 = drop_at_more xs (i + 1) (i + 2) (omega arith) (omega arith) in
    let e2 = drop_at_more xs (i + 2) (i + 3) (omega arith) (omega arith) in
    let e3 = drop_at_more xs (i + 3) (i + 4) (omega arith) (omega arith) in
    let e4 = drop_at_more xs (i + 4) (i + 5) (omega arith) (omega arith) in
    let e5 = drop_at_more xs (i + 5) (i + 6) (omega arith) (omega arith) in
    let e6 = drop_at_more xs (i + 6) (i + 7) (omega arith) (omega arith) in
    let e7 = drop_at_more xs (i + 7) (i + 8) (omega arith) (omega arith) in
    rw (e0, e1, e2, e3, e4, e5, e6, e7) refl

-- what a word's bytes read as
pub word_is : (a b d e : ℕ) → from_le_bytes w32 (a ∷ b ∷ d ∷ e ∷ []) ≡ word a b d e
word_is a b d e = omega arith

pub register_nil : (c : ℕ) → register c [] ≡ c
unfolding register
register_nil c = refl

pub register_one : (c b : ℕ) (bytes : List ℕ)
    → register c (b ∷ bytes) ≡ register (shifted 8 (bit_xor c b)) bytes
unfolding register
register_one c b bytes = refl

pub register_step : (c : ℕ) (xs : List ℕ) (i : ℕ) → i < length xs
    → register c (drop i xs) ≡ register (shifted 8 (bit_xor c (slice_index xs i))) (drop (i + 1) xs)
register_step c xs i lt =
    ap (register c) (drop_at_more xs i (i + 1) lt (omega arith))
    ∙ register_one c (slice_index xs i) (drop (i + 1) xs)
