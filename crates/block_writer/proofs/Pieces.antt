-- Pieces of 120 samples, one after another.
use Rattle.std.proofs.Common.{◌≡◌, ℕ, zero, suc, ◌<◌, ◌≤◌, ℤ, List, [], ◌∷◌, ◌++◌, length, take}
use Rattle.std.proofs.Common.{drop, sym, ap, ◌∙◌, append_assoc, arith}
use Rattle.std.specs.List.{flat_map}
use Rattle.std.proofs.lemmas.List.{take_all, drop_all, length-drop, append-nil}
use Rattle.block_writer.specs.Writing.{pieces, piece_text}

pub take_short : {X : Type 0} (n : ℕ) (xs : List X) → length xs ≤ n → xs ≡ take n xs
take_short n xs le = sym (take_all n xs le)

pub drop_short : {X : Type 0} (n : ℕ) (xs : List X) → length xs ≤ n → [] ≡ drop n xs
drop_short n xs le = sym (drop_all n xs le)

-- what was written, and what is still to be written
abbrev pub IsUnderWay : List ℕ → List (ℤ × ℤ) → List ℕ → Type 0
IsUnderWay out rest whole =
    (n : ℕ) × (length rest ≤ n) × (out ++ flat_map piece_text (pieces n rest) ≡ whole)

regroup : {X : Type 0} (f : X → List ℕ) (out : List ℕ) (x : X) (xs : List X) (whole : List ℕ)
    → out ++ flat_map f (x ∷ xs) ≡ whole → (out ++ f x) ++ flat_map f xs ≡ whole
regroup f out x xs whole so_far = simp append_assoc so_far

pub drop_shorter : (rest after : List (ℤ × ℤ)) → 0 < length rest → after ≡ drop 120 rest
    → length after < length rest
drop_shorter rest after some back = omega (arith, ap length back, length-drop 120 rest)

pub one_piece : (out next : List ℕ) (rest piece after : List (ℤ × ℤ)) (whole : List ℕ)
    → 0 < length rest → piece ≡ take 120 rest → after ≡ drop 120 rest
    → next ≡ out ++ piece_text piece → IsUnderWay out rest whole → IsUnderWay next after whole
unfolding pieces
one_piece out next [] piece after whole some front back step under_way = absurd (omega arith)
one_piece out next (s ∷ ss) piece after whole some front back step (zero, le, so_far) =
    absurd (omega (arith, le))
one_piece out next (s ∷ ss) piece after whole some front back step (suc n, le, so_far) =
    let shorter : length after ≤ n = omega (arith, le, drop_shorter (s ∷ ss) after some back) in
    let written : next ≡ out ++ piece_text (take 120 (s ∷ ss)) =
    step ∙ ap (λ (p : List (ℤ × ℤ)). out ++ piece_text p) front in
    let grouped : (out ++ piece_text (take 120 (s ∷ ss)))
    ++ flat_map piece_text (pieces n (drop 120 (s ∷ ss))) ≡ whole =
    regroup piece_text out (take 120 (s ∷ ss)) (pieces n (drop 120 (s ∷ ss))) whole so_far in (
      n,
      shorter,
      ap (λ (xs : List ℕ). xs ++ flat_map piece_text (pieces n after)) written
          ∙ ap (λ (rest : List (ℤ × ℤ)). (out ++ piece_text (take 120 (s ∷ ss)))
          ++ flat_map piece_text (pieces n rest)) back
          ∙ grouped,
    )

pub all_written : (out : List ℕ) (rest : List (ℤ × ℤ)) (whole : List ℕ) → length rest ≡ 0
    → IsUnderWay out rest whole → out ≡ whole
unfolding pieces
all_written out [] whole none (zero, le, so_far) = sym (append-nil out) ∙ so_far
all_written out [] whole none (suc n, le, so_far) = sym (append-nil out) ∙ so_far
all_written out (s ∷ ss) whole none under_way = absurd (omega arith)
