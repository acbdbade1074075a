-- The series of an index, in the words of labels and texts.
use Rattle.std.specs.Prelude.{ℕ, ◌/◌, List, [], ◌∷◌, map, get_or}
use Rattle.labels.specs.Labels.{Labels}
use Rattle.block_walk.specs.declared.chunk.Chunk.{Chunk}
use Rattle.block_walk.specs.IndexFile.Layout.{SeriesEntry, Label, Body}

-- a series: its reference, its label set, and where its samples are
pub record Series : Type 0 where
  pub reference : ℕ
  pub labels : Labels
  pub chunks : List Chunk

-- the references of series
abbrev pub references : List Series → List ℕ
references ss = map (λ s. s.reference) ss

-- their label sets
abbrev pub label_sets : List Series → List Labels
label_sets ss = map (λ s. s.labels) ss

-- their chunks
abbrev pub chunk_lists : List Series → List (List Chunk)
chunk_lists ss = map (λ s. s.chunks) ss

-- a name and a value by their symbols, as texts
abbrev pub pair_of : List (List ℕ) → Label → List ℕ × List ℕ
pair_of symbols l = (get_or symbols l.0 [], get_or symbols l.1 [])

-- labels by their symbols, as texts
abbrev pub named : List (List ℕ) → List Label → List (List ℕ × List ℕ)
named symbols ls = map (pair_of symbols) ls

-- the series of an entry and its body; a reference is the sixteenth part of the entry's offset
abbrev pub series_at : List (List ℕ) → SeriesEntry → Body → Series
series_at symbols p b =
    record { reference = p.offset / 16; labels = named symbols b.labels; chunks = b.chunks }

-- the series of entries and their bodies
unfoldable pub series_of : List (List ℕ) → List SeriesEntry → List Body → List Series
series_of symbols [] bs = []
series_of symbols (p ∷ ps) [] = []
series_of symbols (p ∷ ps) (b ∷ bs) = series_at symbols p b ∷ series_of symbols ps bs
