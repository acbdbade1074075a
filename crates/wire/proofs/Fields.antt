-- Fields of a fixed width and bytes as they stand: what is read is what stands there, and what
-- stands there is read.
use Rattle.std.proofs.Common.{◌≡◌, ℕ, ◌+◌, ◌^◌, ◌<◌, ◌≤◌, false, ltb, List, ◌++◌, length, take}
use Rattle.std.proofs.Common.{drop, Ok, refl, sym, ap, ◌∙◌, inl, inr, arith}
use Rattle.std.specs.Int.{w32, w64, from_be_bytes}
use Rattle.std.proofs.lemmas.Bool.{cases_lt, ltb-false, le-ltb}
use Rattle.std.proofs.lemmas.List.{get_or-take, get_or-drop, length-take, length-take-le}
use Rattle.std.proofs.lemmas.List.{length-append, take-append-drop, take_at, drop_at, get_or_past}
use Rattle.std.proofs.lemmas.List.{get_or_append_left, get_or-append-add}
use Rattle.byteorder.specs.Numbers.{big_from-lt, big_number-reads_back}
use Rattle.std.proofs.lemmas.Nat.{be_bytes_4, be_bytes_8}
use Rattle.byteorder.specs.Endian.{big_number, big_bytes}
use Rattle.wire.specs.Spelling.{IsBytes}
use Rattle.wire.proofs.KnownReads.{chosen, read_with, same_read}
use Rattle.wire.specs.Reading.{number_at, bytes_at}

pub IsBytes-drop : (n : ℕ) (bytes : List ℕ) → IsBytes bytes → IsBytes (drop n bytes)
IsBytes-drop n bytes h i = rw get_or-drop (h (n + i))

pub IsBytes-front : (a b : List ℕ) → IsBytes (a ++ b) → IsBytes a
IsBytes-front a b h i =
    elim (cases_lt i (length a)) [
      | inl lt ↦ rw (← get_or_append_left a b 0 i lt) (h i)
      | inr le ↦ rw (get_or_past a i 0 le) (omega arith)
    ]

pub IsBytes-back : (a b : List ℕ) → IsBytes (a ++ b) → IsBytes b
IsBytes-back a b h i = rw (← get_or-append-add a b i 0) (h (length a + i))

pub IsBytes-take : (n : ℕ) (bytes : List ℕ) → IsBytes bytes → IsBytes (take n bytes)
IsBytes-take n bytes h i =
    elim (cases_lt i n) [
      | inl lt ↦ rw (get_or-take n bytes i 0 lt) (h i)
      | inr le ↦
          rw (get_or_past (take n bytes) i 0 (omega (arith, length-take n bytes))) (omega arith)
    ]

pub big_bytes_4 : (bytes : List ℕ) → IsBytes bytes → 4 ≤ length bytes
    → big_bytes 4 (big_number 4 bytes) ≡ take 4 bytes
big_bytes_4 bytes fits le =
    let t = λ (i : ℕ). λ (lt : i < 4). get_or-take 4 bytes i 0 lt in
    let same : big_number 4 bytes ≡ from_be_bytes w32 (take 4 bytes) =
    omega (arith, t 0 (omega arith), t 1 (omega arith), t 2 (omega arith), t 3 (omega arith)) in
    be_bytes_4 (take 4 bytes) _ (omega (arith, length-take 4 bytes))
    (IsBytes-take 4 bytes fits) same

pub big_bytes_8 : (bytes : List ℕ) → IsBytes bytes → 8 ≤ length bytes
    → big_bytes 8 (big_number 8 bytes) ≡ take 8 bytes
big_bytes_8 bytes fits le =
    let t = λ (i : ℕ). λ (lt : i < 8). get_or-take 8 bytes i 0 lt in
    let same : big_number 8 bytes ≡ from_be_bytes w64 (take 8 bytes) = omega (
      arith,
      t 0 (omega arith),
      t 1 (omega arith),
      t 2 (omega arith),
      t 3 (omega arith),
      t 4 (omega arith),
      t 5 (omega arith),
      t 6 (omega arith),
      t 7 (omega arith),
    ) in
    be_bytes_8 (take 8 bytes) _ (omega (arith, length-take 8 bytes))
    (IsBytes-take 8 bytes fits) same

pub number_takes_4 : (bytes : List ℕ) (n : ℕ) (rest : List ℕ) → IsBytes bytes
    → number_at 4 bytes ≡ Ok (n, rest) → (bytes ≡ big_bytes 4 n ++ rest) × (n < 2 ^ 32)
number_takes_4 bytes n rest fits h =
    elim (chosen (ltb (length bytes) 4) _ _ _ h) [
      | inl t ↦ absurd (let f = t.1 in cc)
      | inr t ↦
          let p = same_read (big_number 4 bytes) n (drop 4 bytes) rest t.1 in
          let text : big_bytes 4 n ≡ take 4 bytes =
          rw (← p.0) (big_bytes_4 bytes fits (ltb-false _ _ t.0)) in
          let below : big_number 4 bytes < 2 ^ 32 = big_from-lt 0 4 bytes fits in (
            sym (ap (λ (x : List ℕ). x ++ rest) text
                ∙ ap (λ (x : List ℕ). take 4 bytes ++ x) (sym p.1)
                ∙ take-append-drop 4 bytes),
            rw (← p.0) below,
          )
    ]

pub number_again_4 : (n : ℕ) (rest : List ℕ) → n < 2 ^ 32
    → number_at 4 (big_bytes 4 n ++ rest) ≡ Ok (n, rest)
number_again_4 n rest lt =
    let long : ltb (length (big_bytes 4 n ++ rest)) 4 ≡ false = le-ltb _ _ (omega arith) in
    let back : big_number 4 (big_bytes 4 n ++ rest) ≡ n = big_number-reads_back 4 n rest lt in
    let made : number_at 4 (big_bytes 4 n ++ rest)
    ≡ read_with (big_number 4 (big_bytes 4 n ++ rest)) rest = rw long refl in
    made ∙ ap (λ (m : ℕ). read_with m rest) back

pub number_takes_8 : (bytes : List ℕ) (n : ℕ) (rest : List ℕ) → IsBytes bytes
    → number_at 8 bytes ≡ Ok (n, rest) → (bytes ≡ big_bytes 8 n ++ rest) × (n < 2 ^ 64)
number_takes_8 bytes n rest fits h =
    elim (chosen (ltb (length bytes) 8) _ _ _ h) [
      | inl t ↦ absurd (let f = t.1 in cc)
      | inr t ↦
          let p = same_read (big_number 8 bytes) n (drop 8 bytes) rest t.1 in
          let text : big_bytes 8 n ≡ take 8 bytes =
          rw (← p.0) (big_bytes_8 bytes fits (ltb-false _ _ t.0)) in
          let below : big_number 8 bytes < 2 ^ 64 = big_from-lt 0 8 bytes fits in (
            sym (ap (λ (x : List ℕ). x ++ rest) text
                ∙ ap (λ (x : List ℕ). take 8 bytes ++ x) (sym p.1)
                ∙ take-append-drop 8 bytes),
            rw (← p.0) below,
          )
    ]

pub number_again_8 : (n : ℕ) (rest : List ℕ) → n < 2 ^ 64
    → number_at 8 (big_bytes 8 n ++ rest) ≡ Ok (n, rest)
number_again_8 n rest lt =
    let long : ltb (length (big_bytes 8 n ++ rest)) 8 ≡ false = le-ltb _ _ (omega arith) in
    let back : big_number 8 (big_bytes 8 n ++ rest) ≡ n = big_number-reads_back 8 n rest lt in
    let made : number_at 8 (big_bytes 8 n ++ rest)
    ≡ read_with (big_number 8 (big_bytes 8 n ++ rest)) rest = rw long refl in
    made ∙ ap (λ (m : ℕ). read_with m rest) back

pub bytes_takes : (n : ℕ) (bytes text rest : List ℕ) → bytes_at n bytes ≡ Ok (text, rest)
    → (bytes ≡ text ++ rest) × (length text ≡ n)
bytes_takes n bytes text rest h =
    elim (chosen (ltb (length bytes) n) _ _ _ h) [
      | inl t ↦ absurd (let f = t.1 in cc)
      | inr t ↦
          let p = same_read (take n bytes) text (drop n bytes) rest t.1 in (
            rw (← p.0, ← p.1) (sym (take-append-drop n bytes)),
            ap length (sym p.0) ∙ length-take-le n bytes (ltb-false _ _ t.0),
          )
    ]

pub bytes_again : (text rest : List ℕ) → bytes_at (length text) (text ++ rest) ≡ Ok (text, rest)
bytes_again text rest =
    let long : ltb (length (text ++ rest)) (length text) ≡ false =
    le-ltb _ _ (omega (arith, length-append text rest)) in
    rw (long, take_at text rest (length text) refl, drop_at text rest (length text) refl) refl

-- the text in front, and what stands after it
pub front_found : (n : ℕ) (bytes text : List ℕ) → text ≡ take n bytes → bytes ≡ text ++ drop n bytes
front_found n bytes text e =
    sym (ap (λ (t : List ℕ). t ++ drop n bytes) e ∙ take-append-drop n bytes)
