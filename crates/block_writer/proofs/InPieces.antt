-- A file in pieces, made of rows that are taken from the end of a list in reverse.
use Rattle.std.proofs.Common.{◌≡◌, ℕ, ℤ, List, [], ◌∷◌, ◌++◌, Vec, Global, reverse, sym, ap, subst}
use Rattle.std.proofs.Common.{◌∙◌, append_assoc, length, arith}
use Rattle.std.specs.List.{flat_map, All}
use Rattle.std.proofs.lemmas.List.{append-nil, flat_map_more, reverse-append, reverse-reverse}
use Rattle.std.proofs.lemmas.List.Elements.{All-cons}
use Rattle.labels.specs.Rows.{Row}
use Rattle.block_writer.specs.Typed.{Have64Bits, IsOf64Bits}
use Rattle.block_writer.specs.Writing.{chunks_text, rows_text, series_text}

-- the pieces laid end to end
abbrev pub laid : List (Vec ℕ Global) → List ℕ
laid pieces = flat_map (λ (piece : Vec ℕ Global). piece.items) pieces

row_taken : (left after : List Row) (row : Row) → left ≡ after ++ row ∷ []
    → reverse left ≡ row ∷ reverse after
row_taken left after row e =
    ap (λ (rs : List Row). reverse rs) e ∙ reverse-append after (row ∷ [])

text_taken : (left after : List Row) (row : Row) → left ≡ after ++ row ∷ []
    → rows_text (reverse left) ≡ series_text row.1 ++ rows_text (reverse after)
text_taken left after row e = ap (λ (rs : List Row). rows_text rs) (row_taken left after row e)

-- ---- one piece

-- the chunks of the first row
pub first_put : (empty piece : List ℕ) (samples : List (ℤ × ℤ)) (row : Row) (rest : List ℕ)
    → empty ≡ [] → samples ≡ row.1 → piece ≡ empty ++ series_text samples
    → piece ++ rest ≡ series_text row.1 ++ rest
first_put empty piece samples row rest none same put =
    ap (λ (xs : List ℕ). xs ++ rest)
    (put ∙ ap (λ (xs : List ℕ). xs ++ series_text samples) none
    ∙ ap (λ (ss : List (ℤ × ℤ)). series_text ss) same)

-- and of one more
pub next_put : (piece next : List ℕ) (left after : List Row) (row : Row)
    (samples : List (ℤ × ℤ)) (whole : List ℕ) → left ≡ after ++ row ∷ [] → samples ≡ row.1
    → next ≡ piece ++ series_text samples → piece ++ rows_text (reverse left) ≡ whole
    → next ++ rows_text (reverse after) ≡ whole
next_put piece next left after row samples whole taken same put so_far =
    ap (λ (xs : List ℕ). xs ++ rows_text (reverse after))
    (put ∙ ap (λ (ss : List (ℤ × ℤ)). piece ++ series_text ss) same)
    ∙ append_assoc piece (series_text row.1) (rows_text (reverse after))
    ∙ ap (λ (xs : List ℕ). piece ++ xs) (sym (text_taken left after row taken))
    ∙ so_far

pub row_typed : (row : Row) (samples : List (ℤ × ℤ)) (rows : List Row) → samples ≡ row.1
    → All IsOf64Bits samples → Have64Bits rows → Have64Bits (row ∷ rows)
row_typed row samples rows same here rest =
    All-cons (λ (r : Row). All IsOf64Bits r.1) row rows (subst (All IsOf64Bits) same here) rest

pub next_typed : (left after : List Row) (row : Row) (samples : List (ℤ × ℤ))
    → left ≡ after ++ row ∷ [] → samples ≡ row.1 → All IsOf64Bits samples
    → Have64Bits (reverse after) → Have64Bits (reverse left)
next_typed left after row samples taken same here rest =
    subst Have64Bits (sym (row_taken left after row taken))
    (row_typed row samples (reverse after) same here rest)

-- ---- one piece after another

pub begun : (rows left : List Row) (head : Vec ℕ Global) (none pieces : List (Vec ℕ Global))
    → left ≡ reverse rows → head.items ≡ 0x85 ∷ 0xBD ∷ 0x40 ∷ 0xDD ∷ 1 ∷ 0 ∷ 0 ∷ 0 ∷ []
    → none ≡ [] → pieces ≡ none ++ head ∷ []
    → laid pieces ++ rows_text (reverse left) ≡ chunks_text rows
begun rows left head none pieces turned is no_piece first =
    ap (λ (ps : List (Vec ℕ Global)). laid ps ++ rows_text (reverse left))
    (first ∙ ap (λ (ps : List (Vec ℕ Global)). ps ++ head ∷ []) no_piece)
    ∙ ap (λ (xs : List ℕ). (xs ++ []) ++ rows_text (reverse left)) is
    ∙ ap (λ (rs : List Row). chunks_text rs)
    (ap (λ (rs : List Row). reverse rs) turned ∙ reverse-reverse rows)

pub rows_typed : (rows left : List Row) → left ≡ reverse rows → Have64Bits (reverse left)
    → Have64Bits rows
rows_typed rows left turned all =
    subst Have64Bits (ap (λ (rs : List Row). reverse rs) turned ∙ reverse-reverse rows) all

pub one_more : (pieces next : List (Vec ℕ Global)) (piece : Vec ℕ Global)
    (left after last : List Row) (row : Row) (whole : List ℕ) → left ≡ after ++ row ∷ []
    → piece.items ++ rows_text (reverse last) ≡ series_text row.1 ++ rows_text (reverse after)
    → next ≡ pieces ++ piece ∷ [] → laid pieces ++ rows_text (reverse left) ≡ whole
    → laid next ++ rows_text (reverse last) ≡ whole
one_more pieces next piece left after last row whole taken made pushed so_far =
    ap (λ (xs : List ℕ). xs ++ rows_text (reverse last))
    (ap (λ (ps : List (Vec ℕ Global)). laid ps) pushed
    ∙ sym (flat_map_more (λ (p : Vec ℕ Global). p.items) [] pieces piece))
    ∙ append_assoc (laid pieces) piece.items (rows_text (reverse last))
    ∙ ap (λ (xs : List ℕ). laid pieces ++ xs)
    (made ∙ sym (text_taken left after row taken))
    ∙ so_far

pub one_more_typed : (left after last : List Row) (row : Row) (whole : List Row)
    → left ≡ after ++ row ∷ []
    → (Have64Bits (reverse last) → Have64Bits (row ∷ reverse after))
    → (Have64Bits (reverse left) → Have64Bits whole) → Have64Bits (reverse last)
    → Have64Bits whole
one_more_typed left after last row whole taken made so_far all =
    so_far (subst Have64Bits (sym (row_taken left after row taken)) (made all))

-- and none is left
pub none_left : (pieces : List (Vec ℕ Global)) (left : List Row) (whole : List ℕ)
    → length left ≡ 0 → laid pieces ++ rows_text (reverse left) ≡ whole → laid pieces ≡ whole
none_left pieces [] whole none so_far = sym (append-nil (laid pieces)) ∙ so_far
none_left pieces (row ∷ left) whole none so_far = absurd (omega (arith, none))

pub none_left_typed : (left whole : List Row) → length left ≡ 0
    → (Have64Bits (reverse left) → Have64Bits whole) → Have64Bits whole
none_left_typed [] whole none so_far = so_far (λ k d lt. absurd (omega (arith, lt)))
none_left_typed (row ∷ left) whole none so_far = absurd (omega (arith, none))
