-- All checks of an index but those of its postings, in their order.
use Rattle.std.specs.Prelude.{ℕ, Bool, List, length, map, Result, Ok, Err, nat_lt, nat_le}
use Rattle.std.specs.Prelude.{if◌then◌else◌}
use Rattle.std.specs.List.{list_all}
use Rattle.block_walk.specs.declared.error.WalkError.{WalkError}
use Rattle.block_walk.specs.declared.error.WalkError.TheVariants.{Series, SeriesOrder, Limit}
use Rattle.block_walk.specs.IndexFile.Layout.{Layout, series_end, Label, Body}
use Rattle.block_walk.specs.IndexFile.Reading.{layout_of}
use Rattle.wire.specs.Outcome.{◌>>=◌}
use Rattle.block_walk.specs.IndexFile.Each.{each, rises}
use Rattle.block_walk.specs.IndexFile.Flat.{body_of_entry, is_before, gaps_zero}
use Rattle.block_walk.specs.IndexFile.Series.{series_of}
use Rattle.block_walk.specs.IndexFile.Series as series

-- the labels of each body
abbrev pub labels_of_each : List Body → List (List Label)
labels_of_each bodies = map (λ b. b.labels) bodies

-- the bodies of the entries, with nothing but zeros between them, and their label sets in order
unfoldable pub bodies_of : List ℕ → Layout → Result (List Body) WalkError
bodies_of file p = do
  bodies ← each (body_of_entry p.symbols) p.entries
  if gaps_zero file (series_end p.contents) p.symbols_end p.entries
      then (if rises is_before (labels_of_each bodies) then Ok bodies else Err SeriesOrder)
      else Err Series

-- whether a series has at most 64 labels
abbrev pub is_small : List Label → Bool
is_small labels = nat_le (length labels) 64

-- what an index says of its series: its parts, and the bodies of its entries
pub record Read : Type 0 where
  pub parts : Layout
  pub bodies : List Body

-- all checks in their order, and what they read
unfoldable pub read_of : List ℕ → Result Read WalkError
read_of file = do
  parts ← layout_of file
  bodies ← bodies_of file parts
  if nat_lt 1048576 (length bodies) then Err Limit else (
      if list_all is_small (labels_of_each bodies)
      then Ok (record { parts = parts; bodies = bodies })
      else Err Limit)

-- the series of what was read
abbrev pub series_in : Read → List series.Series
series_in r = series_of r.parts.symbols r.parts.entries r.bodies

-- reading the series of an index: the first check that fails, or the series
unfoldable pub indexed_of : List ℕ → Result (List series.Series) WalkError
indexed_of file = do
  r ← read_of file
  Ok (series_in r)
