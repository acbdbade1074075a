-- The bodies of all series, by their places in flat lists.
use Rattle.std.specs.Cmp.Lexicographic.{slice_cmp}
use Rattle.std.specs.List.{All}
use Rattle.std.specs.Ordering.{is_lt}
use Rattle.std.specs.Prelude.{ℕ, ◌+◌, ◌<◌, ◌≤◌, ◌^◌, List, length, Result, Bool, map, slice_range}
use Rattle.index_reader.specs.declared.series.Series.{Series}
use Rattle.index_reader.specs.declared.chunk.Chunk.{Chunk}
use Rattle.index_reader.specs.declared.error.IndexError.{IndexError}
use Rattle.index_reader.specs.Reading.Bodies.{body_at}
use Rattle.index_reader.specs.Layout.{SeriesEntry, Label, Body}
use Rattle.index_reader.specs.Lookups.{key_cmp}

-- the body whose parts stand at these places
abbrev pub body_in : List Label → List Chunk → Series → Body
body_in labels chunks s = record {
  labels = slice_range labels s.labels_start s.labels_end;
  chunks = slice_range chunks s.chunks_start s.chunks_end;
}

-- all bodies
abbrev pub bodies_in : List Label → List Chunk → List Series → List Body
bodies_in labels chunks series = map (body_in labels chunks) series

-- the places lie in the lists
pub record IsIn (labels : List Label) (chunks : List Chunk) (s : Series) : Type 0 where
  pub labels_ordered : s.labels_start ≤ s.labels_end
  pub labels_inside : s.labels_end ≤ length labels
  pub chunks_ordered : s.chunks_start ≤ s.chunks_end
  pub chunks_inside : s.chunks_end ≤ length chunks

-- all places do
abbrev pub AllIn : List Label → List Chunk → List Series → Type 0
AllIn labels chunks series = All (IsIn labels chunks) series

-- a series whose parts stand behind so many other labels and chunks
abbrev pub moved : ℕ → ℕ → Series → Series
moved labels chunks s = record {
  reference = s.reference;
  labels_start = labels + s.labels_start;
  labels_end = labels + s.labels_end;
  chunks_start = chunks + s.chunks_start;
  chunks_end = chunks + s.chunks_end;
}

-- its places are still numbers of 64 bits then
pub record CanMove (labels chunks : ℕ) (s : Series) : Type 0 where
  pub labels_start : labels + s.labels_start < 2 ^ 64
  pub labels_end : labels + s.labels_end < 2 ^ 64
  pub chunks_start : chunks + s.chunks_start < 2 ^ 64
  pub chunks_end : chunks + s.chunks_end < 2 ^ 64

-- their references
abbrev pub references_in_order : List Series → List ℕ
references_in_order series = map (λ s. s.reference) series

-- the body of an entry
abbrev pub body_of_entry : List (List ℕ) → SeriesEntry → Result Body IndexError
body_of_entry symbols p = body_at symbols p.body

-- ---- the order of the series, on the numbers of their symbols

-- the labels of all bodies
abbrev pub label_sets_in : List Label → List Series → List (List Label)
label_sets_in labels series = map (λ s. slice_range labels s.labels_start s.labels_end) series

-- whether labels are below others; a prefix is smaller
abbrev pub labels_before : List Label → List Label → Bool
labels_before a b = is_lt (slice_cmp key_cmp a b)
