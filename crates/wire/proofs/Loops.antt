-- The loops that read and write a number, seven bits at a time.
use Rattle.std.proofs.Common.{◌≡◌, ℕ, ◌+◌, ◌-◌, ◌*◌, ◌%◌, ◌^◌, ◌<◌, ◌≤◌, List, [], ◌∷◌, Result, Ok}
use Rattle.std.proofs.Common.{Err, true, false, eqb, ltb, ◌&&◌, add-one, refl, ap, ◌∙◌, arith, inl}
use Rattle.std.proofs.Common.{inr}
use Rattle.std.proofs.lemmas.Bool.{cases_eq, ltb-false, lt-ltb, le-ltb}
use Rattle.wire.specs.declared.error.WireError.TheVariants.{Short, LongForm, TooBig}
use Rattle.std.proofs.Math.Nat.{mul-add, mul_assoc, mul_comm, pow-le-pow_right}
use Rattle.std.proofs.lemmas.Nat.{pow-add, shl_whole, mul-add-lt}
use Rattle.wire.specs.declared.error.WireError.{WireError}
use Rattle.wire.specs.Reading.{below, groups_at}

-- what was read before, below what is still read
abbrev pub with_low : ℕ → ℕ → Result (ℕ × List ℕ) WireError → Result (ℕ × List ℕ) WireError
with_low w low (Ok x) = Ok (low + w * x.0, x.1)
with_low w low (Err e) = Err e

distribute : (w low d n : ℕ) → low + w * (d + 128 * n) ≡ low + d * w + w * 128 * n
distribute w low d n =
    let a = mul-add w d (128 * n) in
    let b = mul_assoc w 128 n in
    let e = mul_comm w d in
    omega (arith, a, b, e)

pub with_low-below : (w low d : ℕ) (r : Result (ℕ × List ℕ) WireError)
    → with_low w low (below d r) ≡ with_low (w * 128) (low + d * w) r
with_low-below w low d (Ok x) = ap (λ (n : ℕ). Ok (n, x.1)) (distribute w low d x.0)
with_low-below w low d (Err e) = refl

pub next_weight : (place : ℕ) → 2 ^ (7 * (place + 1)) ≡ 2 ^ (7 * place) * 128
next_weight place =
    let e : 7 * (place + 1) ≡ 7 * place + 7 = omega arith in
    ap (λ (n : ℕ). 2 ^ n) e ∙ pow-add 2 (7 * place) 7

-- seven bits at their place lose none
pub group_whole : (b j place : ℕ) → b < 2 ^ j → j + 7 * place ≤ 64
    → (b * 2 ^ (7 * place)) % 2 ^ 64 ≡ b * 2 ^ (7 * place)
group_whole b j place lt le = shl_whole b j (7 * place) 64 lt le

-- and fit above the bits before them
pub group_fits : (low b j place : ℕ) → low < 2 ^ (7 * place) → b < 2 ^ j → j + 7 * place ≤ 64
    → low + b * 2 ^ (7 * place) < 2 ^ (j + 7 * place)
group_fits low b j place lt small le =
    let w = 2 ^ (7 * place) in
    let a : b * w + low < w * 2 ^ j = mul-add-lt b w low (2 ^ j) small lt in
    let e : 2 ^ (j + 7 * place) ≡ w * 2 ^ j = pow-add 2 j (7 * place) ∙ mul_comm (2 ^ j) w in
    omega (arith, a, e)

pub group_fits_64 : (low b j place : ℕ) → low < 2 ^ (7 * place) → b < 2 ^ j → j + 7 * place ≤ 64
    → low + b * 2 ^ (7 * place) < 2 ^ 64
group_fits_64 low b j place lt small le =
    let a = group_fits low b j place lt small le in
    let m : 2 ^ (j + 7 * place) ≤ 2 ^ 64 = pow-le-pow_right (omega arith) le in
    omega (arith, a, m)

-- one byte of the number, by what its tests said
abbrev Read : Type 0
Read = Result (ℕ × List ℕ) WireError

pub empty_is : (place : ℕ) → groups_at place [] ≡ Err Short
unfolding groups_at
empty_is place = refl

pub too_big_is : (place b : ℕ) (rest : List ℕ) → (eqb place 9 && ltb 1 b) ≡ true
    → groups_at place (b ∷ rest) ≡ Err TooBig
unfolding groups_at
too_big_is place b rest h = rw h refl

pub long_form_is : (place b : ℕ) (rest : List ℕ) → (eqb place 9 && ltb 1 b) ≡ false → b < 128
    → (eqb b 0 && ltb 0 place) ≡ true → groups_at place (b ∷ rest) ≡ Err LongForm
unfolding groups_at
long_form_is place b rest h lt z = rw (h, lt-ltb b 128 lt, z) refl

pub last_is : (place b : ℕ) (rest : List ℕ) → (eqb place 9 && ltb 1 b) ≡ false → b < 128
    → (eqb b 0 && ltb 0 place) ≡ false → groups_at place (b ∷ rest) ≡ Ok (b, rest)
unfolding groups_at
last_is place b rest h lt z = rw (h, lt-ltb b 128 lt, z) refl

pub goes_on : (place b : ℕ) (rest : List ℕ) → (eqb place 9 && ltb 1 b) ≡ false → 128 ≤ b
    → groups_at place (b ∷ rest) ≡ below (b - 128) (groups_at (place + 1) rest)
unfolding groups_at
goes_on place b rest h le = rw (h, le-ltb b 128 le, add-one) refl

-- in byte 10 there is one bit
bit_is : (place b : ℕ) → (eqb place 9 && ltb 1 b) ≡ false → eqb place 9 ≡ true → b < 2
bit_is place b h e = let no : ltb 1 b ≡ false = rw e at h in omega (arith, ltb-false 1 b no)

bound_is : (place b : ℕ) → (eqb place 9 && ltb 1 b) ≡ false → place ≡ 9 → b < 2
bound_is place b h e = bit_is place b h (rw e refl)

-- how many bits a byte below 128 has at its place, so that all of them fit 64
pub bits_at : (place b : ℕ) → place < 10 → b < 128 → (eqb place 9 && ltb 1 b) ≡ false
    → (j : ℕ) × (b < 2 ^ j) × (j + 7 * place ≤ 64)
bits_at place b lt small h =
    elim (cases_eq place 9) [
      | inl e ↦ (1, bound_is place b h e, omega arith)
      | inr n ↦ (7, small, omega arith)
    ]

pub group_at_place : (low b place : ℕ) → place < 10 → b < 128 → (eqb place 9 && ltb 1 b) ≡ false
    → low < 2 ^ (7 * place)
    → (b * 2 ^ (7 * place) % 2 ^ 64 ≡ b * 2 ^ (7 * place)) × (low + b * 2 ^ (7 * place) < 2 ^ 64)
group_at_place low b place lt small h under =
    let j = bits_at place b lt small h in
    (group_whole b j.0 place j.1 j.2, group_fits_64 low b j.0 place under j.1 j.2)

-- where the number goes on there is a further place
pub place_below : (place b : ℕ) → place < 10 → 128 ≤ b
    → (eqb place 9 && ltb 1 b) ≡ false → place < 9
place_below place b lt le h = elim (cases_eq place 9) [
  | inl e ↦ absurd (omega (arith, bound_is place b h e))
  | inr n ↦ omega arith
]

pub with_low_one : (r : Result (ℕ × List ℕ) WireError) → with_low 1 0 r ≡ r
with_low_one (Ok x) =
    let e : 0 + 1 * x.0 ≡ x.0 = omega arith in
    ap (λ (n : ℕ). Ok (n, x.1)) e
with_low_one (Err e) = refl
