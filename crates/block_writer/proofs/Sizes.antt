-- How long the chunks of a series are, and those of all rows.
use Rattle.std.proofs.Common.{◌≡◌, ℕ, zero, suc, ◌+◌, ◌*◌, ◌/◌, ◌%◌, ◌<◌, ◌≤◌, ◌⊎◌}
use Rattle.std.proofs.Common.{ℤ, List, [], ◌∷◌, ◌++◌, length, get_or, take, drop, refl, sym, ap}
use Rattle.std.proofs.Common.{subst, ◌∙◌, inl, inr, arith}
use Rattle.std.specs.List.{flat_map}
use Rattle.std.proofs.lemmas.Bool.{cases_lt, lt-ltb, le-ltb}
use Rattle.std.proofs.lemmas.List.{length-append, length-take, length-drop, take_all}
use Rattle.std.proofs.lemmas.List.Concat.{flat_map-cons}
use Rattle.std.proofs.lemmas.List.Folds.{length-flat_map-take}
use Rattle.labels.specs.Rows.{Row}
use Rattle.block_writer.specs.Sizes.{chunk_size}
use Rattle.block_writer.specs.Writing.{pieces, piece_text, series_text, chunks_text}
use Rattle.block_writer.proofs.Lengths.{short_piece, long_piece}
use Rattle.block_writer.proofs.Pieces.{take_short, drop_short}
use Rattle.block_writer.proofs.Spelled.{one_more}

-- a chunk of no more than 120 samples
pub piece_size : (ss : List (ℤ × ℤ)) → length ss ≤ 120
    → chunk_size (length ss) ≡ length (piece_text ss)
piece_size ss few =
    elim (cases_lt (length ss) 8) [
      | inl lt ↦
          let a = short_piece ss (omega (arith, lt)) in
          rw (lt-ltb (length ss) 8 lt) (omega (arith, a))
      | inr le ↦
          let a = long_piece ss (omega (arith, le)) few in
          rw (le-ltb (length ss) 8 le) (omega (arith, a))
    ]

-- the chunks of a series: those of 120 samples, and one of what is left
abbrev pub IsSize : List (ℤ × ℤ) → ℕ → Type 0
IsSize ss size =
    ((length ss % 120 ≡ 0) × (size ≡ length ss / 120 * 1929))
    ⊎ ((0 < length ss % 120)
    × (size ≡ length ss / 120 * 1929 + chunk_size (length ss % 120)))

empty_size : IsSize [] 0
empty_size = inl (refl, refl)

longer_size : (before after : ℕ) (ss rest : List (ℤ × ℤ)) → length ss ≡ 120 + length rest
    → after ≡ 1929 + before → IsSize rest before → IsSize ss after
longer_size before after ss rest e f (inl a) =
    inl (omega (arith, e, a.0), omega (arith, e, f, a.1))
longer_size before after ss rest e f (inr a) =
    let same : length rest % 120 ≡ length ss % 120 = omega (arith, e) in
    let last = ap chunk_size same in
    inr (omega (arith, e, a.0), omega (arith, e, f, a.1, last))

short_size : (ss : List (ℤ × ℤ)) → 0 < length ss → length ss ≤ 120
    → IsSize ss (chunk_size (length ss))
short_size ss some le =
    elim (cases_lt (length ss) 120) [
      | inl lt ↦
          let same : length ss % 120 ≡ length ss = omega (arith, lt) in
          let last = ap chunk_size same in
          inr (omega (arith, some, lt), omega (arith, lt, last))
      | inr ge ↦
          let e : length ss ≡ 120 = omega (arith, le, ge) in
          let last = ap chunk_size e in
          inl (omega (arith, e), omega (arith, e, last))
    ]

sizes : (n : ℕ) (ss : List (ℤ × ℤ)) → length ss ≤ n
    → IsSize ss (length (flat_map piece_text (pieces n ss)))
unfolding pieces
sizes zero [] le = empty_size
sizes zero (s ∷ ss) le = absurd (omega arith)
sizes (suc n) [] le = empty_size
sizes (suc n) (s ∷ ss) le =
    let front = take 120 (s ∷ ss) in
    let rest = drop 120 (s ∷ ss) in
    let split = length-append (piece_text front) (flat_map piece_text (pieces n rest)) in
    let joined =
    ap (λ (x : List ℕ). length x) (flat_map-cons piece_text front (pieces n rest)) in
    elim (cases_lt 120 (length (s ∷ ss))) [
      | inl lt ↦
          let full : length front ≡ 120 = omega (arith, lt, length-take 120 (s ∷ ss)) in
          let first : 1929 ≡ length (piece_text front) =
          ap chunk_size (sym full) ∙ piece_size front (omega (arith, full)) in
          longer_size (length (flat_map piece_text (pieces n rest)))
          (length (flat_map piece_text (front ∷ pieces n rest))) (s ∷ ss) rest
          (omega (arith, lt, length-drop 120 (s ∷ ss))) (omega (arith, split, joined, first))
          (sizes n rest (omega (arith, le, length-drop 120 (s ∷ ss))))
      | inr few ↦
          let none : rest ≡ [] = sym (drop_short 120 (s ∷ ss) few) in
          let whole : front ≡ s ∷ ss = sym (take_short 120 (s ∷ ss) few) in
          let first : chunk_size (length (s ∷ ss)) ≡ length (piece_text front) =
          piece_size (s ∷ ss) few ∙ ap (λ (x : List (ℤ × ℤ)). length (piece_text x)) (sym whole) in
          let last : length (flat_map piece_text (pieces n rest)) ≡ 0 =
          ap (λ (x : List (ℤ × ℤ)). length (flat_map piece_text (pieces n x))) none
          ∙ no_pieces n in
          subst (IsSize (s ∷ ss)) (omega (arith, split, joined, first, last))
          (short_size (s ∷ ss) (omega arith) few)
    ]
  where
    no_pieces : (m : ℕ) → length (flat_map piece_text (pieces m [])) ≡ 0
    no_pieces zero = refl
    no_pieces (suc m) = refl

pub series_size : (ss : List (ℤ × ℤ)) → IsSize ss (length (series_text ss))
series_size ss = sizes (length ss) ss (omega arith)

pub whole_series : (ss : List (ℤ × ℤ)) (count size : ℕ) → length ss ≡ count → count % 120 ≡ 0
    → size ≡ count / 120 * 1929 → size ≡ length (series_text ss)
whole_series ss count size e none h =
    elim (series_size ss) [
      | inl a ↦ omega (arith, e, h, a.1)
      | inr a ↦ absurd (omega (arith, e, none, a.0))
    ]

pub parted_series : (ss : List (ℤ × ℤ)) (count size last : ℕ) → length ss ≡ count
    → (count % 120 ≡ 0 → ⊥) → last ≡ chunk_size (count % 120)
    → size ≡ count / 120 * 1929 + last → size ≡ length (series_text ss)
parted_series ss count size last e some f h =
    elim (series_size ss) [
      | inl a ↦ absurd (some (omega (arith, e, a.0)))
      | inr a ↦
          let same = ap (λ (n : ℕ). chunk_size (n % 120)) e in
          omega (arith, e, f, h, a.1, same)
    ]

pub chunk_small : (n : ℕ) → 0 < n → chunk_size n ≤ 24 * n
chunk_small n some =
    elim (cases_lt n 8) [
      | inl lt ↦ rw (lt-ltb n 8 lt) omega (arith, some)
      | inr le ↦ rw (le-ltb n 8 le) omega (arith, le)
    ]

chunk_big : (n : ℕ) → n ≤ chunk_size n
chunk_big n =
    elim (cases_lt n 8) [
      | inl lt ↦ rw (lt-ltb n 8 lt) omega arith
      | inr le ↦ rw (le-ltb n 8 le) omega arith
    ]

-- there are no fewer bytes than samples
pub series_big : (ss : List (ℤ × ℤ)) → length ss ≤ length (series_text ss)
series_big ss =
    elim (series_size ss) [
      | inl a ↦ omega (arith, a.0, a.1)
      | inr a ↦ omega (arith, a.1, chunk_big (length ss % 120))
    ]

-- ---- rows

abbrev text_of : Row → List ℕ
text_of row = series_text row.1

-- the bytes of the rows before a place and of the row there are among those of all
pub rows_big : (rows : List Row) (i : ℕ) (row : Row) → i < length rows → row ≡ get_or rows i row
    → 8 + length (flat_map text_of (take i rows)) + length (text_of row)
    ≤ length (chunks_text rows)
rows_big rows i row lt read =
    let e : length (text_of row) ≡ length (text_of (get_or rows i row)) =
    ap (λ (r : Row). length (text_of r)) read in
    omega (arith, e, length-flat_map-take text_of rows i row lt)

pub rows_on : (rows : List Row) (i len next size : ℕ) (row : Row) → i < length rows
    → row ≡ get_or rows i row → len ≡ 8 + length (flat_map text_of (take i rows))
    → size ≡ length (text_of row) → next ≡ len + size
    → next ≡ 8 + length (flat_map text_of (take (i + 1) rows))
rows_on rows i len next size row lt read so_far one step =
    let before = flat_map text_of (take i rows) in
    let more : before ++ text_of row ≡ [] ++ flat_map text_of (take (i + 1) rows) =
    one_more text_of [] before (before ++ text_of row) rows i row lt read refl refl in
    omega (
      arith,
      so_far,
      one,
      step,
      ap (λ (x : List ℕ). length x) more,
      length-append before (text_of row),
    )

pub all_rows : (rows : List Row) (i len : ℕ) → length rows ≤ i
    → len ≡ 8 + length (flat_map text_of (take i rows)) → len ≡ length (chunks_text rows)
all_rows rows i len le so_far =
    let e = ap (λ (rs : List Row). length (flat_map text_of rs)) (take_all i rows le) in
    omega (arith, so_far, e)
