-- Signed numbers: what is read is the one spelling, and each spelling is read.
use Rattle.std.proofs.Common.{◌≡◌, ℕ, ◌+◌, ◌*◌, ◌/◌, ◌%◌, ◌^◌, ◌<◌, true, false, eqb, List, ◌++◌}
use Rattle.std.proofs.Common.{Result, Ok, Err, refl, sym, ap, ◌∙◌, inl, inr, arith}
use Rattle.std.specs.Prelude.{ℤ, pos, negsuc}
use Rattle.std.proofs.lemmas.Bool.{cases_eq, eqb-true, false_from_ne_true}
use Rattle.wire.specs.declared.error.WireError.{WireError}
use Rattle.wire.specs.Spelling.{uvarint, varint, zigzag, IsBytes}
use Rattle.wire.specs.Reading.{uvarint_at, varint_at, unzigzag, signed}
use Rattle.wire.proofs.Laws.{uvarint_takes, uvarint_again}
use Rattle.wire.proofs.KnownReads.{read_with}

pub zigzag-unzigzag : (n : ℕ) → zigzag (unzigzag n) ≡ n
zigzag-unzigzag n =
    elim (cases_eq (n % 2) 0) [
      | inl e ↦ let t : eqb (n % 2) 0 ≡ true = rw e refl in rw t (omega arith)
      | inr d ↦
          let f : eqb (n % 2) 0 ≡ false =
          false_from_ne_true (eqb (n % 2) 0) (λ h. d (eqb-true (n % 2) 0 h)) in rw f (omega arith)
    ]

pub unzigzag-zigzag : (z : ℤ) → unzigzag (zigzag z) ≡ z
unzigzag-zigzag (pos n) =
    let even : (n * 2) % 2 ≡ 0 = omega arith in
    let half : (n * 2) / 2 ≡ n = omega arith in
    rw (even, half) refl
unzigzag-zigzag (negsuc n) =
    let odd : (n * 2 + 1) % 2 ≡ 1 = omega arith in
    let half : (n * 2 + 1) / 2 ≡ n = omega arith in
    rw (odd, half) refl

signed_ok : (r : Result (ℕ × List ℕ) WireError) (z : ℤ) (rest : List ℕ) → signed r ≡ Ok (z, rest)
    → (n : ℕ) × (r ≡ Ok (n, rest)) × (unzigzag n ≡ z)
signed_ok (Ok x) z rest e =
    let a : ℤ × List ℕ = (unzigzag x.0, x.1) in
    let b : ℤ × List ℕ = (z, rest) in
    let p : a ≡ b = cc in (
      x.0,
      ap (λ (t : List ℕ). read_with x.0 t) (ap (λ (q : ℤ × List ℕ). q.1) p),
      ap (λ (q : ℤ × List ℕ). q.0) p,
    )
signed_ok (Err f) z rest e = absurd cc

pub varint_takes : (bytes : List ℕ) (z : ℤ) (rest : List ℕ) → IsBytes bytes
    → varint_at bytes ≡ Ok (z, rest) → (bytes ≡ varint z ++ rest) × (zigzag z < 2 ^ 64)
unfolding varint_at varint
varint_takes bytes z rest fits e =
    let s = signed_ok (uvarint_at bytes) z rest e in
    let t = uvarint_takes bytes s.0 rest fits s.1 in
    let same : zigzag z ≡ s.0 = ap zigzag (sym s.2) ∙ zigzag-unzigzag s.0 in
    (t.0 ∙ ap (λ (n : ℕ). uvarint n ++ rest) (sym same), rw same t.1)

pub varint_again : (z : ℤ) (rest : List ℕ) → zigzag z < 2 ^ 64
    → varint_at (varint z ++ rest) ≡ Ok (z, rest)
unfolding varint_at varint
varint_again z rest lt =
    ap signed (uvarint_again (zigzag z) rest lt)
    ∙ ap (λ (y : ℤ). read_with y rest) (unzigzag-zigzag z)

-- a signed number is spelled as the number that it comes from
pub spelled_as : (n : ℕ) (z : ℤ) (bytes rest : List ℕ) → z ≡ unzigzag n → bytes ≡ uvarint n ++ rest
    → bytes ≡ varint z ++ rest
unfolding varint
spelled_as n z bytes rest same e =
    e ∙ ap (λ (m : ℕ). uvarint m ++ rest) (sym (ap zigzag same ∙ zigzag-unzigzag n))
