-- What an index holds, in the words of labels and texts.
use Rattle.std.specs.Prelude.{◌≡◌, ℕ, ◌+◌, ◌/◌, ◌<◌, ◌≤◌, ◌^◌, List, [], ◌∷◌, length, map, get_or}
use Rattle.std.specs.Prelude.{filter}
use Rattle.std.specs.List.{Contains}
use Rattle.std.specs.List.Sorted.{IsStrictlyIncreasing}
use Rattle.std.specs.Str.{bytes_eq}
use Rattle.std.specs.declared.cmp.Ordering.TheVariants.{Less}
use Rattle.labels.specs.Labels.{Labels, labels_cmp, pair_cmp}
use Rattle.labels.specs.Parts.{carries}
use Rattle.index_reader.specs.declared.chunk.Chunk.{Chunk}
use Rattle.index_reader.specs.Layout.{SeriesEntry, Label, Body}

-- a series: its reference, its label set, and where its samples are
pub record Series : Type 0 where
  pub reference : ℕ
  pub labels : Labels
  pub chunks : List Chunk

-- an index: its series in file order, and the pairs that it lists after the empty one
pub record Indexed : Type 0 where
  pub series : List Series
  pub pairs : List (List ℕ × List ℕ)

-- the references of series
abbrev pub references : List Series → List ℕ
references ss = map (λ s. s.reference) ss

-- their label sets
abbrev pub label_sets : List Series → List Labels
label_sets ss = map (λ s. s.labels) ss

-- their chunks
abbrev pub chunk_lists : List Series → List (List Chunk)
chunk_lists ss = map (λ s. s.chunks) ss

-- the references of the series that carry a pair, in file order
abbrev pub references_with : List ℕ → List ℕ → List Series → List ℕ
references_with name value ss = references (filter (λ s. carries name value s.labels) ss)

-- the values of a name among pairs
abbrev pub values_of : List ℕ → List (List ℕ × List ℕ) → List (List ℕ)
values_of name pairs = map (λ p. p.1) (filter (λ p. bytes_eq p.0 name) pairs)

-- what every index keeps: references ascend and are below 2^32, no more than 1,048,576 series
-- ascend by their label sets, and the pairs, which ascend too, are exactly those that series carry
pub record IsConsistent (x : Indexed) : Type 0 where
  pub ascending : IsStrictlyIncreasing (references x.series)
  pub small : (k : ℕ) → k < length x.series → get_or (references x.series) k 0 < 2 ^ 32
  pub few : length x.series ≤ 1048576
  pub in_order : (k : ℕ) → k + 1 < length x.series
      → labels_cmp (get_or (label_sets x.series) k []) (get_or (label_sets x.series) (k + 1) [])
      ≡ Less
  pub pairs_in_order : (k : ℕ) → k + 1 < length x.pairs
      → pair_cmp (get_or x.pairs k ([], [])) (get_or x.pairs (k + 1) ([], [])) ≡ Less
  pub carried : (name value : List ℕ) → Contains x.pairs (name, value)
      → references_with name value x.series ≡ [] → ⊥
  pub listed : (name value : List ℕ) → (references_with name value x.series ≡ [] → ⊥)
      → Contains x.pairs (name, value)

-- a name and a value by their symbols, as texts
abbrev pub named_label : List (List ℕ) → Label → List ℕ × List ℕ
named_label symbols l = (get_or symbols l.0 [], get_or symbols l.1 [])

-- pairs by their symbols, as texts
abbrev pub named : List (List ℕ) → List Label → List (List ℕ × List ℕ)
named symbols ls = map (named_label symbols) ls

-- the series of an entry and its body; a reference is the sixteenth part of the entry's offset
abbrev pub series_at : List (List ℕ) → SeriesEntry → Body → Series
series_at symbols p b = record {
  reference = p.offset / 16;
  labels = named symbols b.labels;
  chunks = b.chunks;
}

-- the series of entries and their bodies
unfoldable pub series_of : List (List ℕ) → List SeriesEntry → List Body → List Series
series_of symbols [] bs = []
series_of symbols (p ∷ ps) [] = []
series_of symbols (p ∷ ps) (b ∷ bs) = series_at symbols p b ∷ series_of symbols ps bs
