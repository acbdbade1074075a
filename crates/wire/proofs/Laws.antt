-- What is read is the one spelling of its number, and each spelling is read.
use Rattle.std.proofs.Common.{◌≡◌, ℕ, zero, suc, ◌+◌, ◌-◌, ◌*◌, ◌/◌, ◌%◌, ◌^◌, ◌<◌, ◌≤◌, Bool, true}
use Rattle.std.proofs.Common.{false, eqb, ltb, ◌&&◌, List, [], ◌∷◌, ◌++◌, length, Result, Ok, Err}
use Rattle.std.proofs.Common.{refl, ap, subst, ◌∙◌, inl, inr, arith}
use Rattle.std.proofs.lemmas.Bool.{cases_lt, ltb-true, ltb-false, lt-ltb, le-ltb, eqb-true}
use Rattle.std.proofs.lemmas.Bool.{false_from_ne_true}
use Rattle.wire.specs.declared.error.WireError.{WireError}
use Rattle.wire.specs.Spelling.{groups, uvarint, IsBytes}
use Rattle.wire.proofs.KnownReads.{chosen}
use Rattle.wire.specs.Reading.{below, groups_at, uvarint_at}

IsBytes-rest : (b : ℕ) (bytes : List ℕ) → IsBytes (b ∷ bytes) → IsBytes bytes
IsBytes-rest b bytes h i = h (suc i)

both_true : (p q : Bool) → (p && q) ≡ true → (p ≡ true) × (q ≡ true)
both_true true q h = (refl, h)
both_true false q h = absurd cc

not_second : (p q : Bool) → (p && q) ≡ false → p ≡ true → q ≡ false
not_second true q h e = h
not_second false q h e = absurd cc

-- a value that takes k more bytes than one is below this
abbrev pub limit : ℕ → ℕ
limit zero = 2
limit (suc k) = 128 * limit k

below_ok : (low : ℕ) (r : Result (ℕ × List ℕ) WireError) (x : ℕ × List ℕ) → below low r ≡ Ok x
    → (y : ℕ × List ℕ) × (r ≡ Ok y) × (low + 128 * y.0 ≡ x.0) × (y.1 ≡ x.1)
below_ok low (Ok y) x e = (y, refl, cc, cc)
below_ok low (Err f) x e = absurd cc

pub record IsGroups (k place : ℕ) (bytes : List ℕ) (x : ℕ × List ℕ) : Type 0 where
  pub parts : bytes ≡ groups (suc k) x.0 ++ x.1
  pub small : x.0 < limit k
  pub short : x.0 ≡ 0 → place ≡ 0

last_group : (k place b : ℕ) (rest : List ℕ) → b < 128 → b < limit k → (b ≡ 0 → place ≡ 0)
    → IsGroups k place (b ∷ rest) (b, rest)
unfolding groups
last_group k place b rest lt small h =
    record { parts = rw (lt-ltb b 128 lt) refl; small = small; short = h }

more_groups : (k place b : ℕ) (rest : List ℕ) (y : ℕ × List ℕ) → 128 ≤ b → b < 256
    → IsGroups k (suc place) rest y → IsGroups (suc k) place (b ∷ rest) (b - 128 + 128 * y.0, y.1)
unfolding groups
more_groups k place b rest y le lt g =
    let n = b - 128 + 128 * y.0 in
    let nonzero : 0 < y.0 =
    elim (cases_lt 0 y.0) [ inl z ↦ z | inr z ↦ absurd (omega (arith, g.short (omega arith))) ] in
    let big : ltb n 128 ≡ false = le-ltb n 128 (omega arith) in
    let low : n % 128 + 128 ≡ b = omega arith in
    let high : n / 128 ≡ y.0 = omega arith in
    record {
      parts = rw (big, low, high) (ap (λ (t : List ℕ). b ∷ t) g.parts);
      small = omega (arith, g.small);
      short = λ z. absurd (omega arith);
    }

limit_from_two : (k : ℕ) → 2 ≤ limit k
limit_from_two zero = omega arith
limit_from_two (suc k) = omega (arith, limit_from_two k)

small_group : (k b : ℕ) → b < 128 → (k ≡ 0 → b < 2) → b < limit k
small_group zero b lt h = h refl
small_group (suc k) b lt h = omega (arith, limit_from_two k)

pair_is : (x y : ℕ × List ℕ) → x.0 ≡ y.0 → x.1 ≡ y.1 → x ≡ y
pair_is x y e f = ap (λ (a : ℕ). (a, x.1)) e ∙ ap (λ (r : List ℕ). (y.0, r)) f

groups_on : (k place b : ℕ) (rest : List ℕ) (x : ℕ × List ℕ) → place + k ≡ 9 → IsBytes (b ∷ rest)
    → 128 ≤ b → (place ≡ 9 → b < 2) → below (b - 128) (groups_at (suc place) rest) ≡ Ok x
    → ((j p : ℕ) (y : ℕ × List ℕ) → p + j ≡ 9 → groups_at p rest ≡ Ok y → IsGroups j p rest y)
    → IsGroups k place (b ∷ rest) x
groups_on zero place b rest x at fits le bound e others =
    absurd (omega (arith, bound (omega arith)))
groups_on (suc k) place b rest x at fits le bound e others =
    let y = below_ok (b - 128) (groups_at (suc place) rest) x e in
    let g = others k (suc place) y.0 (omega arith) y.1 in
    let made : ℕ × List ℕ = (b - 128 + 128 * y.0.0, y.0.1) in
    let same : made ≡ x = pair_is made x y.2 y.3 in
    subst (λ (z : ℕ × List ℕ). IsGroups (suc k) place (b ∷ rest) z) same
    (more_groups k place b rest y.0 le (fits 0) g)

pub groups_take : (k place : ℕ) (bytes : List ℕ) (x : ℕ × List ℕ) → place + k ≡ 9 → IsBytes bytes
    → groups_at place bytes ≡ Ok x → IsGroups k place bytes x
unfolding groups_at
groups_take k place [] x at fits e = absurd cc
groups_take k place (b ∷ rest) x at fits e =
    elim (chosen (eqb place 9 && ltb 1 b) _ _ _ e) [
      | inl t ↦ absurd (let h = t.1 in cc)
      | inr f ↦
          let bound : place ≡ 9 → b < 2 =
          λ p. omega (arith, ltb-false 1 b (not_second (eqb place 9) (ltb 1 b) f.0 (rw p refl))) in
          elim (chosen (ltb b 128) _ _ _ f.1) [
            | inl t ↦
                elim (chosen (eqb b 0 && ltb 0 place) _ _ _ t.1) [
                  | inl u ↦ absurd (let h = u.1 in cc)
                  | inr u ↦
                      let made : ℕ × List ℕ = (b, rest) in
                      let same : made ≡ x = cc in
                      let h : b ≡ 0 → place ≡ 0 = λ z. omega (
                        arith,
                        ltb-false 0 place (not_second (eqb b 0) (ltb 0 place) u.0 (rw z refl)),
                      ) in
                      subst (λ (y : ℕ × List ℕ). IsGroups k place (b ∷ rest) y) same
                      (last_group k place b rest (ltb-true b 128 t.0)
                      (small_group k b (ltb-true b 128 t.0) (λ z. bound (omega arith))) h)
                ]
            | inr t ↦
                groups_on k place b rest x at fits (ltb-false b 128 t.0) bound t.1 (λ j p y a h.
                groups_take j p rest y a (IsBytes-rest b rest fits) h)
          ]
    ]

and_false : (b : Bool) → (b && false) ≡ false
and_false true = refl
and_false false = refl

not_too_big : (k place n : ℕ) → place + k ≡ 9 → n < limit k → (eqb place 9 && ltb 1 n) ≡ false
not_too_big zero place n at small = rw (le-ltb 1 n (omega arith)) (and_false (eqb place 9))
not_too_big (suc k) place n at small =
    let no : eqb place 9 ≡ false =
    false_from_ne_true (eqb place 9) (λ h. omega (arith, eqb-true place 9 h)) in
    rw no refl

not_long : (place n : ℕ) → (n ≡ 0 → place ≡ 0) → (eqb n 0 && ltb 0 place) ≡ false
not_long place zero short = rw (le-ltb 0 place (omega (arith, short refl))) refl
not_long place (suc n) short =
    let no : eqb (suc n) 0 ≡ false =
    false_from_ne_true (eqb (suc n) 0) (λ h. omega (arith, eqb-true (suc n) 0 h)) in
    rw no refl

one_again : (k place n : ℕ) (rest : List ℕ) → place + k ≡ 9 → n < limit k → (n ≡ 0 → place ≡ 0)
    → n < 128 → groups_at place (groups (suc k) n ++ rest) ≡ Ok (n, rest)
unfolding groups_at groups
one_again k place n rest at small short lt =
    let big : (eqb place 9 && ltb 1 n) ≡ false = not_too_big k place n at small in
    let long : (eqb n 0 && ltb 0 place) ≡ false = not_long place n short in
    rw (lt-ltb n 128 lt, big, lt-ltb n 128 lt, long) refl

pub groups_again : (k place n : ℕ) (rest : List ℕ) → place + k ≡ 9 → n < limit k
    → (n ≡ 0 → place ≡ 0) → groups_at place (groups (suc k) n ++ rest) ≡ Ok (n, rest)
unfolding groups_at groups
groups_again zero place n rest at small short =
    one_again zero place n rest at small short (omega arith)
groups_again (suc k) place n rest at small short =
    elim (cases_lt n 128) [
      | inl lt ↦ one_again (suc k) place n rest at small short lt
      | inr le ↦
          let others =
          groups_again k (suc place) (n / 128) rest (omega arith) (omega arith)
          (λ z. absurd (omega arith)) in
          let b = n % 128 + 128 in
          let no : eqb place 9 ≡ false =
          false_from_ne_true (eqb place 9) (λ h. omega (arith, eqb-true place 9 h)) in
          let low : b - 128 + 128 * (n / 128) ≡ n = omega arith in
          let first : groups (suc (suc k)) n ≡ b ∷ groups (suc k) (n / 128) =
          rw (le-ltb n 128 le) refl in
          ap (λ (t : List ℕ). groups_at place (t ++ rest)) first
          ∙ rw (no, le-ltb b 128 (omega arith), others, low) refl
    ]

pub uvarint_takes : (bytes : List ℕ) (n : ℕ) (rest : List ℕ) → IsBytes bytes
    → uvarint_at bytes ≡ Ok (n, rest) → (bytes ≡ uvarint n ++ rest) × (n < 2 ^ 64)
unfolding uvarint_at uvarint
uvarint_takes bytes n rest fits e =
    let g = groups_take 9 0 bytes (n, rest) refl fits e in
    (g.parts, omega (arith, g.small))

pub uvarint_again : (n : ℕ) (rest : List ℕ) → n < 2 ^ 64
    → uvarint_at (uvarint n ++ rest) ≡ Ok (n, rest)
unfolding uvarint_at uvarint
uvarint_again n rest lt = groups_again 9 0 n rest refl (omega arith) (λ _. refl)

groups_shorter : (place : ℕ) (bytes : List ℕ) (x : ℕ × List ℕ) → groups_at place bytes ≡ Ok x
    → length x.1 < length bytes
unfolding groups_at
groups_shorter place [] x e = absurd cc
groups_shorter place (b ∷ rest) x e =
    elim (chosen (eqb place 9 && ltb 1 b) _ _ _ e) [
      | inl t ↦ absurd (let h = t.1 in cc)
      | inr f ↦
          elim (chosen (ltb b 128) _ _ _ f.1) [
            | inl t ↦
                elim (chosen (eqb b 0 && ltb 0 place) _ _ _ t.1) [
                  | inl u ↦ absurd (let h = u.1 in cc)
                  | inr u ↦
                      let made : ℕ × List ℕ = (b, rest) in
                      let same : made ≡ x = cc in
                      let e1 : length rest ≡ length x.1 =
                      ap (λ (p : ℕ × List ℕ). length p.1) same in
                      omega (arith, e1)
                ]
            | inr t ↦
                let y = below_ok (b - 128) (groups_at (suc place) rest) x t.1 in
                let e1 : length y.0.1 ≡ length x.1 = ap length y.3 in
                omega (arith, groups_shorter (suc place) rest y.0 y.1, e1)
          ]
    ]

-- a number takes a byte at least
pub uvarint_shorter : (bytes : List ℕ) (x : ℕ × List ℕ) → uvarint_at bytes ≡ Ok x
    → length x.1 < length bytes
unfolding uvarint_at
uvarint_shorter bytes x e = groups_shorter 0 bytes x e

-- a number takes a byte at least
pub uvarint_long : (n : ℕ) → 0 < length (uvarint n)
unfolding uvarint groups
uvarint_long n = elim (cases_lt n 128) [
  | inl lt ↦ rw (lt-ltb n 128 lt) (omega arith)
  | inr le ↦ rw (le-ltb n 128 le) (omega arith)
]
