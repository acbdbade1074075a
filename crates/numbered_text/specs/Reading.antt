-- The text of today's kinds that a content by number stands for, and the names after it; or the
-- first fault.
use Rattle.std.specs.Prelude.{ℕ, zero, suc, ℤ, pos, ◌+ℤ◌, List, [], ◌∷◌, ◌++◌, ◌-◌, length, take}
use Rattle.std.specs.Prelude.{get_or, nat_lt, Bool, false, Option, None, Some, Result, Ok, Err}
use Rattle.std.specs.Prelude.{◌==◌, if◌then◌else◌}
use Rattle.wire.specs.Outcome.{◌>>=◌, or_refused}
use Rattle.wire.specs.Reading.{bytes_at, uvarint_at, varint_at}
use Rattle.wire.specs.Spelling.{varint}
use Rattle.labels.specs.Contents.{is_time}
use Rattle.name_table.specs.Names.{Label, is_new}
use Rattle.numbered_text.specs.declared.error.NumberError.{NumberError}
use Rattle.numbered_text.specs.declared.error.NumberError.TheVariants.{Field, Bounds, Rest}
use Rattle.numbered_text.specs.declared.error.NumberError.TheVariants.{Number, Named}
use Rattle.numbered_text.specs.Each.{Read, Reader, many_at}

-- the bytes after a text: how many bytes it has, and these
unfoldable pub past_text : List ℕ → Result (List ℕ) NumberError
past_text bytes = do
  n ← or_refused Field (uvarint_at bytes)
  text ← or_refused Field (bytes_at n.0 n.1)
  Ok text.1

-- the bytes after so many pairs of texts
unfoldable pub past_pairs : ℕ → List ℕ → Result (List ℕ) NumberError
past_pairs zero bytes = Ok bytes
past_pairs (suc n) bytes = do
  name ← past_text bytes
  value ← past_text name
  past_pairs n value

-- the bytes after a label set: how many pairs it has, and these
unfoldable pub past_label : List ℕ → Result (List ℕ) NumberError
past_label bytes = do
  n ← or_refused Field (uvarint_at bytes)
  past_pairs n.0 n.1

-- the text of the label set in front, and the bytes after it
unfoldable pub label_at : List ℕ → Result (Label × List ℕ) NumberError
label_at bytes = do
  rest ← past_label bytes
  Ok (take (length bytes - length rest) bytes, rest)

-- a label set that has no number gets the next one
unfoldable pub new_at : Reader (List Label)
new_at names bytes = do
  l ← label_at bytes
  if is_new l.0 names then Ok ((l.0, names ++ l.0 ∷ []), l.1) else Err Named

-- the label set of a number
abbrev pub numbered_at : List Label → ℕ → List ℕ → Read (List Label)
numbered_at names n bytes =
    if nat_lt n (length names) then Ok ((get_or names n [], names), bytes)
    else if n == length names then new_at names bytes
    else Err Number

unfoldable pub name_at : Reader (List Label)
name_at names bytes = do
  n ← or_refused Field (uvarint_at bytes)
  numbered_at names n.0 n.1

-- the time so much later than a time
unfoldable pub time_after : ℤ → ℤ → Option ℤ
time_after t step = if is_time (t +ℤ step) then Some (t +ℤ step) else None

abbrev pub sample_made : Option ℤ → ℤ → List ℕ → Read ℤ
sample_made None value rest = Err Bounds
sample_made (Some time) value rest = Ok ((varint time ++ varint value, time), rest)

-- a sample: how much later it is than the one before it, and its value
unfoldable pub sample_at : Reader ℤ
sample_at before bytes = do
  step ← or_refused Field (varint_at bytes)
  value ← or_refused Field (varint_at step.1)
  sample_made (time_after before step.0) value.0 value.1

-- the names, and the time of the sample before
abbrev pub State : Type 0
State = List Label × ℤ

unfoldable pub run_at : Reader State
run_at s bytes = do
  name ← name_at s.0 bytes
  samples ← many_at sample_at s.1 name.1
  Ok ((name.0.0 ++ samples.0.0, (name.0.1, samples.0.1)), samples.1)

-- a content begins with the names, and with the time 0
abbrev pub begun : List Label → State
begun names = (names, pos 0)

abbrev pub ended : {A : Type 0} → A → List ℕ → Result A NumberError
ended a [] = Ok a
ended a (b ∷ rest) = Err Rest

-- the runs of a batch, all of the bytes
unfoldable pub runs_of : List Label → List ℕ → Result (List ℕ × List Label) NumberError
runs_of names bytes = do
  runs ← many_at run_at (begun names) bytes
  ended (1 ∷ runs.0.0, runs.0.1.0) runs.1

-- whether a content is by number
abbrev pub is_numbered : List ℕ → Bool
is_numbered [] = false
is_numbered (kind ∷ rest) = kind == 4

-- The text that a content stands for, and the names after it. One of today's kinds stands for
-- itself, and names nothing.
abbrev pub plain_of : List Label → List ℕ → Result (List ℕ × List Label) NumberError
plain_of names [] = Ok ([], names)
plain_of names (kind ∷ rest) =
    if kind == 4 then runs_of names rest else Ok (kind ∷ rest, names)
