-- How an index is kept.
use Rattle.std.specs.List.{All}
use Rattle.std.specs.Prelude.{◌≡◌, ℕ, ◌+◌, ◌<◌, ◌≤◌, true, List, [], length, get_or, map, ◌^◌}
use Rattle.std.specs.Prelude.{slice_range}
use Rattle.labels.specs.LabelSets.{IsLabelSet}
use Rattle.index_reader.specs.declared.chunk.Chunk.{Chunk}
use Rattle.index_reader.specs.declared.series.Series.{Series}
use Rattle.index_reader.specs.Indexes.{Indexed, references, references_with, named_label, named}
use Rattle.index_reader.specs.Layout.{rises, ascending, Label}
use Rattle.index_reader.specs.Lookups.{key_before}
use Rattle.index_reader.specs.Indexes as indexes

-- a series, whose labels and chunks stand among those of all series
abbrev pub series_in : List (List ℕ) → List Label → List Chunk → Series → indexes.Series
series_in symbols labels chunks s = record {
  reference = s.reference;
  labels = named symbols (slice_range labels s.labels_start s.labels_end);
  chunks = slice_range chunks s.chunks_start s.chunks_end;
}

-- all series
abbrev pub all_in : List (List ℕ) → List Label → List Chunk → List Series → List indexes.Series
all_in symbols labels chunks ss = map (series_in symbols labels chunks) ss

-- what is kept, by symbols and in flat lists, as what an index holds
abbrev pub indexed_in : List (List ℕ) → List Label → List Label → List Chunk → List Series → Indexed
indexed_in symbols keys labels chunks ss = record {
  series = all_in symbols labels chunks ss;
  pairs = named symbols keys;
}

-- labels are of these symbols
abbrev pub AreInTable : List (List ℕ) → List Label → Type 0
AreInTable symbols ls = All (λ l. (l.0 < length symbols) × (l.1 < length symbols)) ls

-- the labels and the chunks of a series are there, and its labels make a label set
pub record IsSeriesIn (symbols : List (List ℕ)) (labels : List Label)
    (chunks : List Chunk) (s : Series)
    : Type 0 where
  pub labels_ordered : s.labels_start ≤ s.labels_end
  pub labels_inside : s.labels_end ≤ length labels
  pub chunks_ordered : s.chunks_start ≤ s.chunks_end
  pub chunks_inside : s.chunks_end ≤ length chunks
  pub in_table : AreInTable symbols (slice_range labels s.labels_start s.labels_end)
  pub labelled : IsLabelSet (named symbols (slice_range labels s.labels_start s.labels_end))

-- each series stands so
abbrev pub AreSeriesIn : List (List ℕ) → List Label → List Chunk → List Series → Type 0
AreSeriesIn symbols labels chunks ss = All (IsSeriesIn symbols labels chunks) ss

-- the references of the series that carry a label
abbrev pub references_of_label : List (List ℕ) → Label → List indexes.Series → List ℕ
references_of_label symbols l series =
    references_with (get_or symbols l.0 []) (get_or symbols l.1 []) series

-- symbols and pairs of them ascend; the first list is that of all series, and after it stands for
-- each pair the list of the series that carry it, of which there are some; other pairs no series
-- carries
pub record IsListing (symbols : List (List ℕ)) (keys : List Label) (series : List indexes.Series)
    (lists : List (List ℕ)) : Type 0 where
  pub few : length symbols < 2 ^ 32
  pub order : ascending symbols ≡ true
  pub rising : rises key_before keys ≡ true
  pub inside : AreInTable symbols keys
  pub counted : length lists ≡ length keys + 1
  pub all : get_or lists 0 [] ≡ references series
  pub listed : (k : ℕ) → k < length keys
      → get_or lists (k + 1) [] ≡ references_of_label symbols (get_or keys k (0, 0)) series
  pub some : (k : ℕ) → k < length keys → get_or lists (k + 1) [] ≡ [] → ⊥
  pub absent : (name value : List ℕ)
      → ((k : ℕ) → k < length keys → named_label symbols (get_or keys k (0, 0)) ≡ (name, value) → ⊥)
      → references_with name value series ≡ []

-- all of it
pub record IsKeptIndex (symbols : List (List ℕ)) (keys labels : List Label) (chunks : List Chunk)
    (ss : List Series) (lists : List (List ℕ)) : Type 0 where
  pub within : AreSeriesIn symbols labels chunks ss
  pub listing : IsListing symbols keys (all_in symbols labels chunks ss) lists
