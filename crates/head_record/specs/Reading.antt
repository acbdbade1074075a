-- Reading what was saved: the value, or the first fault and the content that has it.
use Rattle.std.specs.Prelude.{ℕ, List, [], ◌∷◌, length, take, Result, Ok, Err, nat_lt, ◌+◌, ◌==◌}
use Rattle.std.specs.Prelude.{if◌then◌else◌}
use Rattle.wire.specs.Reading.{byte_at, uvarint_at, varint_at}
use Rattle.wire.specs.Outcome.{◌>>=◌, or_refused}
use Rattle.block_folder.specs.declared.values.Values.{Values}
use Rattle.block_folder.specs.declared.values.Values.TheVariants.{Whole, Doubles}
use Rattle.head.specs.Heads.{HeadSeries}
use Rattle.event_text.specs.declared.error.TextError.{TextError}
use Rattle.event_text.specs.declared.error.TextError.TheVariants.{Kind, Field, Rest}
use Rattle.event_text.specs.Reading.{labels_at, many_at, sample_at}
use Rattle.head_record.specs.declared.error.RefusedHead.{RefusedHead}
use Rattle.head_record.specs.Saved.{Place, Saved}
use Rattle.head_record.specs.Spelling.{Opening}

unfoldable pub place_at : List ℕ → Result (Place × List ℕ) TextError
place_at bytes = do
  folder ← or_refused Field (uvarint_at bytes)
  tombstones ← or_refused Field (uvarint_at folder.1)
  Ok ((folder.0, tombstones.0), tombstones.1)

-- what an opening says behind its kind, which says what the values mean
unfoldable pub opening_at : Values → List ℕ → Result (Opening × List ℕ) TextError
opening_at values bytes = do
  floor ← or_refused Field (varint_at bytes)
  places ← many_at place_at floor.1
  count ← or_refused Field (uvarint_at places.1)
  Ok (record { values = values; floor = floor.0; places = places.0; count = count.0 }, count.1)

unfoldable pub series_at : List ℕ → Result (HeadSeries × List ℕ) TextError
series_at bytes = do
  labels ← labels_at bytes
  newest ← sample_at labels.1
  samples ← many_at sample_at newest.1
  Ok (record { labels = labels.0; samples = samples.0; newest = newest.0 }, samples.1)

-- nothing may be left
abbrev pub ended : {A : Type 0} → A → List ℕ → Result A TextError
ended a [] = Ok a
ended a (b ∷ rest) = Err Rest

-- all of the bytes after a kind
unfoldable pub opening_whole : Values → List ℕ → Result Opening TextError
opening_whole values bytes = do
  x ← opening_at values bytes
  ended x.0 x.1

unfoldable pub series_whole : List ℕ → Result HeadSeries TextError
series_whole bytes = do
  x ← series_at bytes
  ended x.0 x.1

-- an opening whose kind says what the values mean
abbrev pub opening_by : ℕ → List ℕ → Result Opening TextError
opening_by kind bytes =
    if kind == 16 then opening_whole Whole bytes
    else if kind == 18 then opening_whole Doubles bytes
    else Err Kind

-- a content begins by its kind
unfoldable pub opening_of : List ℕ → Result Opening TextError
opening_of content = do
  kind ← or_refused Kind (byte_at content)
  opening_by kind.0 kind.1

unfoldable pub series_of : List ℕ → Result HeadSeries TextError
series_of content = do
  kind ← or_refused Kind (byte_at content)
  if kind.0 == 17 then series_whole kind.1 else Err Kind

-- the refusal of the content at a place
abbrev pub refused_at : {A : Type 0} → ℕ → Result A TextError → Result A RefusedHead
refused_at at (Ok x) = Ok x
refused_at at (Err e) = Err (record { at = at; error = e })

-- each content is a series; the first of them stands at this place
unfoldable pub each_series : ℕ → List (List ℕ) → Result (List HeadSeries) RefusedHead
each_series at [] = Ok []
each_series at (content ∷ contents) = do
  h ← refused_at at (series_of content)
  hs ← each_series (at + 1) contents
  Ok (h ∷ hs)

-- the series that an opening says
unfoldable pub with_series : Opening → List (List ℕ) → Result (Saved × ℕ) RefusedHead
with_series o contents =
    if nat_lt (length contents) o.count
    then Err (record { at = length contents + 1; error = Kind })
    else (do
      hs ← each_series 1 (take o.count contents)
      Ok (record { values = o.values; floor = o.floor; places = o.places; head = hs }, o.count + 1))

-- what the first contents of a journal save, and how many they are
unfoldable pub head_of : List (List ℕ) → Result (Saved × ℕ) RefusedHead
head_of [] = Err (record { at = 0; error = Kind })
head_of (content ∷ contents) = do
  o ← refused_at 0 (opening_of content)
  with_series o contents
