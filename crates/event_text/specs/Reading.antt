-- Reading an event: the value and the bytes after it, or the first fault.
use Rattle.std.specs.Prelude.{ℕ, zero, suc, ℤ, Bool, ◌&&◌, List, [], ◌∷◌, length, Option}
use Rattle.std.specs.Prelude.{None, Some, Result, Ok, Err, nat_le, nat_lt, ◌==◌, if◌then◌else◌}
use Rattle.std.specs.List.{list_all}
use Rattle.std.specs.Str.{is_utf8}
use Rattle.std.specs.Ordering.{is_lt}
use Rattle.wire.specs.Reading.{byte_at, bytes_at, uvarint_at, varint_at}
use Rattle.wire.specs.Outcome.{◌>>=◌, or_refused}
use Rattle.labels.specs.Labels.{Labels, text_cmp}
use Rattle.labels.specs.LabelSets.{are_named, has_value}
use Rattle.labels.specs.Contents.{is_time}
use Rattle.matchers.specs.Views.{MatcherView}
use Rattle.matchers.specs.declared.matcher.Op.{Op}
use Rattle.matchers.specs.declared.matcher.Op.TheVariants.{Equal, NotEqual, Like, NotLike}
use Rattle.head.specs.Batches.{is_batch, is_deletion}
use Rattle.head.specs.Worlds.{Event, batch, deletion, cut, joined}
use Rattle.event_text.specs.declared.error.TextError.{TextError}
use Rattle.event_text.specs.declared.error.TextError.TheVariants.{Kind, Field, Labels as BadLabels}
use Rattle.event_text.specs.declared.error.TextError.TheVariants.{Runs, Bounds, Rest}
use Rattle.event_text.specs.Neighbours.{neighbours}
use Rattle.event_text.specs.Runs.{Run, batch_in, differ}

-- a text is UTF-8
unfoldable pub text_at : List ℕ → Result (List ℕ × List ℕ) TextError
text_at bytes = do
  n ← or_refused Field (uvarint_at bytes)
  s ← or_refused Field (bytes_at n.0 n.1)
  if is_utf8 s.0 then Ok s else Err Field

unfoldable pub pair_at : List ℕ → Result ((List ℕ × List ℕ) × List ℕ) TextError
pair_at bytes = do
  a ← text_at bytes
  b ← text_at a.1
  Ok ((a.0, b.0), b.1)

-- so many items, one after another
unfoldable pub each_at : {A : Type 0} → (List ℕ → Result (A × List ℕ) TextError) → ℕ → List ℕ
    → Result (List A × List ℕ) TextError
each_at at zero bytes = Ok ([], bytes)
each_at at (suc n) bytes = do
  x ← at bytes
  xs ← each_at at n x.1
  Ok (x.0 ∷ xs.0, xs.1)

-- how many, and then the items
unfoldable pub many_at : {A : Type 0} → (List ℕ → Result (A × List ℕ) TextError) → List ℕ
    → Result (List A × List ℕ) TextError
many_at at bytes = do
  n ← or_refused Field (uvarint_at bytes)
  each_at at n.0 n.1

-- whether a pair's name comes before the next one's
abbrev pub rises : List ℕ × List ℕ → List ℕ × List ℕ → Bool
rises a b = is_lt (text_cmp a.0 b.0)

-- whether pairs are a label set
abbrev pub are_labels : Labels → Bool
are_labels pairs =
    neighbours rises pairs && are_named pairs && list_all has_value pairs
    && nat_le (length pairs) 64

unfoldable pub labels_at : List ℕ → Result (Labels × List ℕ) TextError
labels_at bytes = do
  pairs ← many_at pair_at bytes
  if are_labels pairs.0 then Ok pairs else Err BadLabels

unfoldable pub sample_at : List ℕ → Result ((ℤ × ℤ) × List ℕ) TextError
sample_at bytes = do
  time ← or_refused Field (varint_at bytes)
  value ← or_refused Field (varint_at time.1)
  Ok ((time.0, value.0), value.1)

-- a run has a sample
unfoldable pub run_at : List ℕ → Result (Run × List ℕ) TextError
run_at bytes = do
  labels ← labels_at bytes
  samples ← many_at sample_at labels.1
  if length samples.0 == 0 then Err Runs else Ok ((labels.0, samples.0), samples.1)

abbrev pub op_at : ℕ → Option Op
op_at n =
    if n == 0 then Some Equal
    else if n == 1 then Some NotEqual
    else if n == 2 then Some Like
    else if n == 3 then Some NotLike
    else None

abbrev pub with_op : Option Op → (List ℕ × List ℕ) × List ℕ → Result (MatcherView
    × List ℕ) TextError
with_op None texts = Err Field
with_op (Some op) texts = Ok (record { name = texts.0.0; op = op; text = texts.0.1 }, texts.1)

unfoldable pub matcher_at : List ℕ → Result (MatcherView × List ℕ) TextError
matcher_at bytes = do
  op ← or_refused Field (byte_at bytes)
  texts ← pair_at op.1
  with_op (op_at op.0) texts

-- a batch: two runs of one label set do not follow each other
unfoldable pub batch_at : List ℕ → Result (Event × List ℕ) TextError
batch_at bytes = do
  runs ← many_at run_at bytes
  if differ runs.0 then Ok (batch (batch_in runs.0), runs.1) else Err Runs

unfoldable pub deletion_at : List ℕ → Result (Event × List ℕ) TextError
deletion_at bytes = do
  matchers ← many_at matcher_at bytes
  from ← or_refused Field (varint_at matchers.1)
  to ← or_refused Field (varint_at from.1)
  Ok (deletion matchers.0 from.0 to.0, to.1)

unfoldable pub cut_at : List ℕ → Result (Event × List ℕ) TextError
cut_at bytes = do
  at ← or_refused Field (varint_at bytes)
  Ok (cut at.0, at.1)

unfoldable pub event_at : List ℕ → Result (Event × List ℕ) TextError
event_at bytes = do
  kind ← or_refused Kind (byte_at bytes)
  if kind.0 == 1 then batch_at kind.1
      else if kind.0 == 2 then deletion_at kind.1
      else if kind.0 == 3 then cut_at kind.1
      else Err Kind

-- whether an event is within its bounds
abbrev pub is_event : Event → Bool
is_event (batch xs) = is_batch xs
is_event (deletion ms a b) = is_deletion ms a b
is_event (cut t) = is_time t
is_event (joined at count made) = nat_lt made count

-- nothing may be left, and the event has to be within its bounds
abbrev pub alone : Event → List ℕ → Result Event TextError
alone e [] = if is_event e then Ok e else Err Bounds
alone e (b ∷ rest) = Err Rest

-- the event that all of the bytes spell
unfoldable pub event_of : List ℕ → Result Event TextError
event_of bytes = do
  x ← event_at bytes
  alone x.0 x.1
