-- Bodies by their places in flat lists.
use Rattle.std.specs.Prelude.{ℕ, Bool, [], ◌∷◌, ◌==◌, ◌&&◌, ◌≤◌, List, length, map, slice_range}
use Rattle.std.specs.Prelude.{Result}
use Rattle.std.specs.List.{All, list_all}
use Rattle.std.specs.Ordering.{is_lt}
use Rattle.std.specs.Cmp.Lexicographic.{slice_cmp}
use Rattle.block_walk.specs.declared.error.WalkError.{WalkError}
use Rattle.block_walk.specs.IndexFile.Layout.{SeriesEntry, Label, Body}
use Rattle.block_walk.specs.declared.chunk.Chunk.{Chunk}
use Rattle.block_walk.specs.IndexFile.Bodies.{body_at}
use Rattle.block_walk.specs.IndexFile.Order.{key_cmp}
use Rattle.block_walk.specs.declared.bodies.Span.{Span}

-- the body whose parts stand at these places
abbrev pub body_in : List Label → List Chunk → Span → Body
body_in labels chunks r = record {
  labels = slice_range labels r.labels_start r.labels_end;
  chunks = slice_range chunks r.chunks_start r.chunks_end;
}

-- all bodies
abbrev pub bodies_in : List Label → List Chunk → List Span → List Body
bodies_in labels chunks rows = map (body_in labels chunks) rows

-- the places lie in the lists
pub record IsIn (labels : List Label) (chunks : List Chunk) (r : Span) : Type 0 where
  pub labels_ordered : r.labels_start ≤ r.labels_end
  pub labels_inside : r.labels_end ≤ length labels
  pub chunks_ordered : r.chunks_start ≤ r.chunks_end
  pub chunks_inside : r.chunks_end ≤ length chunks

-- all places do
abbrev pub AllIn : List Label → List Chunk → List Span → Type 0
AllIn labels chunks rows = All (IsIn labels chunks) rows

-- what the body of an entry is read as
abbrev pub body_of_entry : List (List ℕ) → SeriesEntry → Result Body WalkError
body_of_entry symbols p = body_at symbols p.body

-- ---- the order of the series, on the numbers of their symbols

-- the labels of all bodies
abbrev pub label_sets_in : List Label → List Span → List (List Label)
label_sets_in labels rows = map (λ r. slice_range labels r.labels_start r.labels_end) rows

-- whether labels are below others; a prefix is smaller
abbrev pub is_before : List Label → List Label → Bool
is_before a b = is_lt (slice_cmp key_cmp a b)

-- the places of the labels lie in their list
abbrev pub AreSpansIn : List Label → List Span → Type 0
AreSpansIn labels rows = All (λ r. (r.labels_start ≤ r.labels_end) × (r.labels_end ≤ length labels))
    rows

-- ---- the bytes between the entries

-- whether each byte from one place up to another is 0
abbrev pub zero_between : List ℕ → ℕ → ℕ → Bool
zero_between file from to = list_all (λ b. b == 0) (slice_range file from to)

-- from a place up to an end, what lies in no entry is 0
unfoldable pub gaps_zero : List ℕ → ℕ → ℕ → List SeriesEntry → Bool
gaps_zero file end from [] = zero_between file from end
gaps_zero file end from (p ∷ ps) = zero_between file from p.offset && gaps_zero file end p.end ps
