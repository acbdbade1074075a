-- The bytes of a chunks file that is written.
use Rattle.std.specs.Prelude.{ℕ, ℤ, zero, suc, List, [], ◌∷◌, length, take, drop}
use Rattle.std.specs.List.{flat_map}
use Rattle.labels.specs.Rows.{Row}
use Rattle.chunk_reader.specs.Grammar.{batch_text, chunk_text, plain}

-- samples in pieces of 120, the last with what is left; n is not below their number
unfoldable pub pieces : ℕ → List (ℤ × ℤ) → List (List (ℤ × ℤ))
pieces n [] = []
pieces zero (s ∷ ss) = []
pieces (suc n) (s ∷ ss) = take 120 (s ∷ ss) ∷ pieces n (drop 120 (s ∷ ss))

-- a chunk of samples that stand uncompressed
unfoldable pub piece_text : List (ℤ × ℤ) → List ℕ
piece_text samples = chunk_text plain (batch_text samples)

-- the chunks of a series
abbrev pub series_text : List (ℤ × ℤ) → List ℕ
series_text samples = flat_map piece_text (pieces (length samples) samples)

-- the chunks of the series of rows
abbrev pub rows_text : List Row → List ℕ
rows_text rows = flat_map (λ (row : Row). series_text row.1) rows

-- magic and version, and the chunks of the series, one series after another, nothing between
abbrev pub chunks_text : List Row → List ℕ
chunks_text rows =
    0x85 ∷ 0xBD ∷ 0x40 ∷ 0xDD ∷ 1 ∷ 0 ∷ 0 ∷ 0 ∷ flat_map (λ (row : Row). series_text row.1) rows
