-- What is read is what the bytes spell, and what they spell is read.
use Rattle.std.proofs.Common.{◌≡◌, ℕ, zero, suc, ◌+◌, ◌-◌, ◌*◌, ◌/◌, ◌%◌, ◌^◌, ◌<◌, ◌≤◌, Bool, true, false, eqb, ltb, ◌&&◌, cond, List, [], ◌∷◌, ◌++◌, length, Result, Ok, Err, refl, sym, ap, subst, ◌∙◌, inl, inr, arith, ◌⊎◌}
use Rattle.std.specs.Prelude.{IfOk}
use Rattle.std.proofs.lemmas.Bool.{cases_eq, cases_lt, ltb-true, ltb-false, lt-ltb, le-ltb, eqb-true, false_from_ne_true}
use Rattle.varints.specs.declared.error.VarintError.{VarintError}
use Rattle.wire.specs.Outcome.{Answers}
use Rattle.varints.specs.Varint.{Spells, IsVarint, below, groups_at, varint_at}
use Rattle.wire.specs.Spelling.{IsBytes, groups, uvarint}

-- which way a test went
pub chosen : {A : Type 0} (b : Bool) (x y z : A) → cond b x y ≡ z
    → ((b ≡ true) × (x ≡ z)) ⊎ ((b ≡ false) × (y ≡ z))
chosen true x y z e = inl (refl, e)
chosen false x y z e = inr (refl, e)

-- a value that takes k more bytes than one is below this
abbrev pub limit : ℕ → ℕ
limit zero = 2
limit (suc k) = 128 * limit k

limit_some : (k : ℕ) → 2 ≤ limit k
limit_some zero = omega arith
limit_some (suc k) = let h = limit_some k in omega arith

record Took (k : ℕ) (bytes : List ℕ) (x : ℕ × List ℕ) : Type 0 where
  text : List ℕ
  spelled : Spells text x.0
  parts : bytes ≡ text ++ x.1
  short : length text ≤ k + 1
  small : x.0 < limit k

not_second : (p q : Bool) → (p && q) ≡ false → p ≡ true → q ≡ false
not_second true q h e = h
not_second false q h e = absurd cc

below_ok : (low : ℕ) (r : Result (ℕ × List ℕ) VarintError) (x : ℕ × List ℕ) → below low r ≡ Ok x
    → (y : ℕ × List ℕ) × (r ≡ Ok y) × (low + 128 * y.0 ≡ x.0) × (y.1 ≡ x.1)
below_ok low (Ok y) x e = (y, refl, cc, cc)
below_ok low (Err f) x e = absurd cc

-- a number of which the last byte is below 128 and fits
last_took : (k b : ℕ) (rest : List ℕ) (x : ℕ × List ℕ) → b < 128 → (k ≡ 0 → b < 2)
    → b ≡ x.0 → rest ≡ x.1 → Took k (b ∷ rest) x
last_took zero b rest x lt one e f =
    record { text = b ∷ []; spelled = (lt, sym e); parts = ap (λ (t : List ℕ). b ∷ t) f; short = omega arith; small = let h = one refl in omega arith }
last_took (suc k) b rest x lt one e f =
    let h = limit_some k in
    record { text = b ∷ []; spelled = (lt, sym e); parts = ap (λ (t : List ℕ). b ∷ t) f; short = omega arith; small = omega arith }

-- a byte in front
before_text : (text : List ℕ) (b n high : ℕ) → 128 ≤ b → b < 256 → n + 128 ≡ b + 128 * high → Spells text high → Spells (b ∷ text) n
before_text [] b n high le lt e s = absurd s
before_text (c ∷ text) b n high le lt e s = (le, lt, high, e, s)

more_took : (k b : ℕ) (rest : List ℕ) (x y : ℕ × List ℕ) → 128 ≤ b → b < 256
    → b - 128 + 128 * y.0 ≡ x.0 → y.1 ≡ x.1 → Took k rest y → Took (suc k) (b ∷ rest) x
more_took k b rest x y le lt e f t = record {
  text = b ∷ t.text;
  spelled = before_text t.text b x.0 y.0 le lt (omega arith) t.spelled;
  parts = ap (λ (s : List ℕ). b ∷ s) t.parts ∙ ap (λ (s : List ℕ). b ∷ (t.text ++ s)) f;
  short = let s = t.short in omega arith;
  small = let s = t.small in omega arith;
}

groups_took : (k before : ℕ) (bytes : List ℕ) (x : ℕ × List ℕ) → before + k ≡ 9 → IsBytes bytes
    → groups_at before bytes ≡ Ok x → Took k bytes x
unfolding groups_at
groups_took k before [] x at fits e = absurd cc
groups_took k before (b ∷ rest) x at fits e =
    elim (chosen (eqb before 9 && ltb 1 b) _ _ _ e) [
      | inl t ↦ absurd (let h = t.1 in cc)
      | inr f ↦
          let bound : before ≡ 9 → b < 2 =
          λ p. omega (arith, ltb-false 1 b (not_second (eqb before 9) (ltb 1 b) f.0 (rw p refl))) in
          elim (chosen (ltb b 128) _ _ _ f.1) [
            | inl t ↦
                let made : ℕ × List ℕ = (b, rest) in
                let same : made ≡ x = let h = t.1 in cc in
                let value : b ≡ x.0 = ap (λ (q : ℕ × List ℕ). q.0) same in
                let after : rest ≡ x.1 = ap (λ (q : ℕ × List ℕ). q.1) same in
                last_took k b rest x (ltb-true b 128 t.0) (λ z. bound (omega arith)) value after
            | inr t ↦
                let y = below_ok (b - 128) (groups_at (suc before) rest) x t.1 in
                let le = ltb-false b 128 t.0 in
                elim (cases_eq k 0) [
                  | inl z ↦ absurd (let h = bound (omega arith) in omega arith)
                  | inr ne ↦
                      let s : suc (k - 1) ≡ k = omega arith in
                      let t = groups_took (k - 1) (suc before) rest y.0 (omega arith) (λ i. fits (suc i)) y.1 in
                      subst (λ (j : ℕ). Took j (b ∷ rest) x) s (more_took (k - 1) b rest x y.0 le (fits 0) y.2 y.3 t)
                ]
          ]
    ]

found_at : (bytes : List ℕ) (x : ℕ × List ℕ) → IsBytes bytes → varint_at bytes ≡ Ok x
    → (text : List ℕ) × IsVarint text x.0 × (bytes ≡ text ++ x.1)
unfolding varint_at
found_at bytes x fits e =
    let t = groups_took 9 0 bytes x (omega arith) fits e in
    (t.text, record { spelled = t.spelled; length = let s = t.short in omega arith; fits = t.small }, t.parts)

and_false : (b : Bool) → (b && false) ≡ false
and_false true = refl
and_false false = refl

groups_again : (text rest : List ℕ) (k before n : ℕ) → before + k ≡ 9 → length text ≤ k + 1 → n < limit k
    → Spells text n → groups_at before (text ++ rest) ≡ Ok (n, rest)
unfolding groups_at
groups_again [] rest k before n at short small s = absurd s
groups_again (b ∷ []) rest zero before n at short small s =
    let one : ltb 1 b ≡ false = let h = s.1 in le-ltb 1 b (omega arith) in
    rw (one, and_false (eqb before 9), lt-ltb b 128 s.0) (ap (λ (m : ℕ). Ok (m, rest)) (sym s.1))
groups_again (b ∷ []) rest (suc k) before n at short small s =
    let no : eqb before 9 ≡ false = false_from_ne_true (eqb before 9) (λ h. omega (arith, eqb-true before 9 h)) in
    rw (no, lt-ltb b 128 s.0) (ap (λ (m : ℕ). Ok (m, rest)) (sym s.1))
groups_again (b ∷ c ∷ text) rest zero before n at short small s = absurd (omega arith)
groups_again (b ∷ c ∷ text) rest (suc k) before n at short small s =
    let no : eqb before 9 ≡ false = false_from_ne_true (eqb before 9) (λ h. omega (arith, eqb-true before 9 h)) in
    let le = s.0 in
    let e = s.3 in
    let lt = s.1 in
    let more = groups_again (c ∷ text) rest k (suc before) s.2 (omega arith) (omega arith) (omega arith) s.4 in
    let v : b - 128 + 128 * s.2 ≡ n = omega arith in
    rw (no, le-ltb b 128 le) (ap (below (b - 128)) more ∙ ap (λ (m : ℕ). Ok (m, rest)) v)

-- a number that stands in front is read
pub varint_again : (text rest : List ℕ) (n : ℕ) → IsVarint text n → varint_at (text ++ rest) ≡ Ok (n, rest)
unfolding varint_at
varint_again text rest n v = groups_again text rest 9 0 n (omega arith) (let h = v.length in omega arith) (let h = v.fits in omega arith) v.spelled

-- what is read stands in front
pub varint_found : (bytes : List ℕ) (x : ℕ × List ℕ) → IsBytes bytes → varint_at bytes ≡ Ok x
    → (text : List ℕ) × IsVarint text x.0 × (bytes ≡ text ++ x.1)
varint_found bytes x fits e = found_at bytes x fits e

-- a byte below 128 is the number
pub one_byte : (b : ℕ) (rest : List ℕ) → b < 128 → varint_at (b ∷ rest) ≡ Ok (b, rest)
one_byte b rest lt = varint_again (b ∷ []) rest b (record { spelled = (lt, refl); length = omega arith; fits = omega arith })

pub is_found : {X : Type 0} (view : X → ℕ × List ℕ) (r : Result X VarintError) (bytes : List ℕ)
    → IsBytes bytes → Answers view r (varint_at bytes)
    → IfOk r (λ x. (text : List ℕ) × IsVarint text (view x).0 × (bytes ≡ text ++ (view x).1))
is_found view (Ok x) bytes fits h = varint_found bytes (view x) fits h
is_found view (Err e) bytes fits h = tt

pub groups_last : (k n : ℕ) → n < 128 → groups (suc k) n ≡ n ∷ []
unfolding groups
groups_last k n lt = rw (lt-ltb n 128 lt) refl

pub groups_more : (k n : ℕ) → 128 ≤ n → groups (suc k) n ≡ (n % 128 + 128) ∷ groups k (n / 128)
unfolding groups
groups_more k n le = rw (le-ltb n 128 le) refl

-- the shortest spelling spells the number
groups_spelled : (k n : ℕ) → n < limit k → Spells (groups (suc k) n) n × (length (groups (suc k) n) ≤ k + 1)
groups_spelled zero n lt = rw (groups_last zero n (omega arith)) ((omega arith, refl), omega arith)
groups_spelled (suc k) n lt =
    elim (cases_lt n 128) [
      | inl small ↦ rw (groups_last (suc k) n small) ((small, refl), omega arith)
      | inr le ↦
          let h = groups_spelled k (n / 128) (omega arith) in
          let s = h.1 in
          rw (groups_more (suc k) n le) (before_text (groups (suc k) (n / 128)) (n % 128 + 128) n (n / 128) (omega arith) (omega arith) (omega arith) h.0, omega arith)
    ]

pub varint_spelled : (n : ℕ) → n < 2 ^ 64 → IsVarint (uvarint n) n
unfolding uvarint
varint_spelled n lt =
    let h = groups_spelled 9 n lt in
    record { spelled = h.0; length = let s = h.1 in omega arith; fits = lt }

pub varint_small : (n : ℕ) → n < 128 → uvarint n ≡ n ∷ []
unfolding uvarint
varint_small n lt = groups_last 9 n lt
