-- The walk over the series entries, and the bytes between them.
use Rattle.std.specs.List.{list_all}
use Rattle.std.specs.Prelude.{ℕ, List, [], ◌∷◌, length, Result, Ok, Bool, ◌&&◌, nat_lt, ◌==◌}
use Rattle.std.specs.Prelude.{if◌then◌else◌, ◌-◌, slice_range, zero, suc}
use Rattle.wire.specs.Reading.{uvarint_at}
use Rattle.index_reader.specs.declared.error.IndexError.{IndexError}
use Rattle.index_reader.specs.declared.error.IndexError.TheVariants.{SeriesCrc}
use Rattle.index_reader.specs.Reading.Frames.{checked_at}
use Rattle.index_reader.specs.Layout.{SeriesEntry, rounded}
use Rattle.wire.specs.Outcome.{◌>>=◌, or_refused}

-- a series entry: its body, and what stands after it
unfoldable pub entry_at : List ℕ → Result (List ℕ × List ℕ) IndexError
entry_at bytes = or_refused SeriesCrc (uvarint_at bytes) >>= checked_at SeriesCrc

-- the entries from a place on, below the end: no more than this many
unfoldable pub entries_from : ℕ → List ℕ → ℕ → ℕ → Result (List SeriesEntry) IndexError
entries_from zero file end at = Ok []
entries_from (suc n) file end at = if nat_lt at end then (do
  entry ← entry_at (slice_range file at end)
  others ← entries_from n file end (rounded (end - length entry.1))
  Ok (record { offset = at; body = entry.0; end = end - length entry.1 } ∷ others))
    else Ok []

-- ---- the bytes between the entries

-- whether each byte from one place up to another is 0
abbrev pub zero_between : List ℕ → ℕ → ℕ → Bool
zero_between file from to = list_all (λ b. b == 0) (slice_range file from to)

-- from a place up to an end, what lies in no entry is 0
unfoldable pub gaps_zero : List ℕ → ℕ → ℕ → List SeriesEntry → Bool
gaps_zero file end from [] = zero_between file from end
gaps_zero file end from (p ∷ ps) = zero_between file from p.offset && gaps_zero file end p.end ps
