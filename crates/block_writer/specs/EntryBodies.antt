-- The bodies of the series entries that are written.
use Rattle.std.specs.Prelude.{ℕ, suc, ◌+◌, ◌-◌, ℤ, pos, ◌-ℤ◌, List, [], ◌∷◌, ◌++◌, length}
use Rattle.std.specs.Prelude.{if◌then◌else◌}
use Rattle.std.specs.Int.RustNames.{unsigned_abs}
use Rattle.std.specs.List.{flat_map}
use Rattle.std.specs.Ordering.{is_lt}
use Rattle.std.specs.declared.cmp.Ordering.{Ordering}
use Rattle.labels.specs.Rows.{Row}
use Rattle.wire.specs.Spelling.{uvarint, varint}
use Rattle.index_reader.specs.declared.chunk.Chunk.{Chunk}
use Rattle.index_reader.specs.Layout.{Label}
use Rattle.index_reader.specs.Spelled.{label_text}
use Rattle.chunk_reader.specs.Grammar.{time_at}
use Rattle.labels.specs.Labels.{text_cmp}
use Rattle.block_writer.specs.Writing.{pieces, piece_text, series_text}

-- how many of a list are below something: its place among them, where it is one of them and they
-- ascend
unfoldable pub place_among : {X : Type 0} → (X → X → Ordering) → List X → X → ℕ
place_among cmp [] x = 0
place_among cmp (y ∷ ys) x =
    if is_lt (cmp y x) then suc (place_among cmp ys x) else place_among cmp ys x

-- the place of a text among the symbols
abbrev pub number_of : List (List ℕ) → List ℕ → ℕ
number_of symbols text = place_among text_cmp symbols text

-- a name and a value by the places of their symbols
abbrev pub numbers_of : List (List ℕ) → List ℕ × List ℕ → Label
numbers_of symbols p = (number_of symbols p.0, number_of symbols p.1)

-- the chunk of samples that stands at a place: its first and its last time, and the place
abbrev pub chunk_of : ℕ → List (ℤ × ℤ) → Chunk
chunk_of at samples =
    record { mint = time_at samples 0; maxt = time_at samples (length samples - 1); reference = at }

-- chunks that stand one after another from a place on
unfoldable pub chunks_from : ℕ → List (List (ℤ × ℤ)) → List Chunk
chunks_from at [] = []
chunks_from at (samples ∷ rest) =
    chunk_of at samples ∷ chunks_from (at + length (piece_text samples)) rest

-- the chunks of a series, which stand from a place on
abbrev pub chunks_of : ℕ → List (ℤ × ℤ) → List Chunk
chunks_of at samples = chunks_from at (pieces (length samples) samples)

-- how far apart two times are
abbrev pub apart : ℤ → ℤ → ℕ
apart from to = unsigned_abs (to -ℤ from)

-- the first chunk of a series: its first time, how much later its last is, its place
abbrev pub first_text : Chunk → List ℕ
first_text c = varint c.mint ++ (uvarint (apart c.mint c.maxt) ++ uvarint c.reference)

-- a later chunk: how much later it begins than the one before it ends, how much later its last time
-- is, how much further it stands
abbrev pub later_text : Chunk → Chunk → List ℕ
later_text before c =
    uvarint (apart before.maxt c.mint)
    ++ (uvarint (apart c.mint c.maxt) ++ varint (pos c.reference -ℤ pos before.reference))

-- chunks after another
unfoldable pub later_texts : Chunk → List Chunk → List ℕ
later_texts before [] = []
later_texts before (c ∷ cs) = later_text before c ++ later_texts c cs

-- the first chunk, and those after it
abbrev pub chunk_texts : List Chunk → List ℕ
chunk_texts [] = []
chunk_texts (c ∷ cs) = first_text c ++ later_texts c cs

-- the count of the labels, and the labels
abbrev pub labels_text : List (List ℕ) → List (List ℕ × List ℕ) → List ℕ
labels_text symbols labels =
    uvarint (length labels) ++ flat_map (λ p. label_text (numbers_of symbols p)) labels

-- the count of the chunks, and the chunks
abbrev pub places_text : List Chunk → List ℕ
places_text chunks = uvarint (length chunks) ++ chunk_texts chunks

-- the body of a row's entry, whose chunks stand from a place on
unfoldable pub body_of : List (List ℕ) → ℕ → Row → List ℕ
body_of symbols at row = labels_text symbols row.0 ++ places_text (chunks_of at row.1)

-- the bodies of all rows, whose chunks stand one after another from a place on
unfoldable pub bodies_of : List (List ℕ) → ℕ → List Row → List (List ℕ)
bodies_of symbols at [] = []
bodies_of symbols at (row ∷ rows) =
    body_of symbols at row ∷ bodies_of symbols (at + length (series_text row.1)) rows
