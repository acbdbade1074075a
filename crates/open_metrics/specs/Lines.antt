-- Lines of a text.
use Rattle.std.specs.Prelude.{ℕ, ℤ, Bool, true, false, ◌==◌, List, [], ◌∷◌, length, Option, None}
use Rattle.std.specs.Prelude.{Some, Result, Ok, Err, if◌then◌else◌}
use Rattle.wire.specs.Outcome.{◌>>=◌}
use Rattle.open_metrics.specs.declared.comments.Format.{Format}
use Rattle.open_metrics.specs.declared.comments.Format.TheVariants.{OpenMetrics, Prometheus}
use Rattle.open_metrics.specs.declared.error.Fault.{Fault}
use Rattle.open_metrics.specs.declared.error.Fault.TheVariants.{At}
use Rattle.open_metrics.specs.declared.error.Reason.TheVariants.{Comment, Name, Value as BadValue}
use Rattle.open_metrics.specs.declared.error.Reason.TheVariants.{Time, After}
use Rattle.open_metrics.specs.declared.lines.Line.{Line}
use Rattle.open_metrics.specs.declared.lines.Line.TheVariants.{Nothing, End, Sample}
use Rattle.open_metrics.specs.declared.lines.SampleLine.{SampleLine}
use Rattle.open_metrics.specs.declared.numbers.Value.{Value}
use Rattle.open_metrics.specs.declared.numbers.Value.TheVariants.{Parts, Near, Other}
use Rattle.open_metrics.specs.declared.tokens.Class.TheVariants.{Metric, Word}
use Rattle.open_metrics.specs.Comments.{comment_at}
use Rattle.open_metrics.specs.Labels.{Pair, labels_at, pairs_in}
use Rattle.open_metrics.specs.Numbers.{number_at}
use Rattle.open_metrics.specs.Tokens.{after_blanks, byte_at, front, behind, gap_at, name_at}

-- a sample, without where it lies in memory: the name of its metric, its labels, its value, its
-- time in milliseconds, whether an exemplar stands behind it, and how many bytes of the line stand
-- from the value on, and from the time on
pub record Sampled : Type 0 where
  pub name : List ℕ
  pub labels : List Pair
  pub value : Value
  pub time : ℤ
  pub exemplar : Bool
  pub from_value : ℕ
  pub from_time : ℕ

-- what a line says: nothing of samples, that the text ends, or a sample
pub data Meaning : Type 0 where
  nothing : Meaning
  end : Meaning
  sampled : Sampled → Meaning

abbrev pub sample_in : SampleLine → Sampled
sample_in line = record {
  name = line.name.now;
  labels = pairs_in line.labels.items;
  value = line.value;
  time = line.t;
  exemplar = line.exemplar;
  from_value = line.from_value;
  from_time = line.from_time;
}

abbrev pub meaning_in : Line → Meaning
meaning_in Nothing = nothing
meaning_in End = end
meaning_in (Sample line) = sampled (sample_in line)

abbrev pub or_value : List ℕ → ℕ → Option Value → Result (Value × List ℕ) Fault
or_value rest left None = Err (At BadValue left)
or_value rest left (Some value) = Ok (value, rest)

-- a value, in parts of which 10^places make one
unfoldable pub value_at : ℕ → List ℕ → Result (Value × List ℕ) Fault
value_at places bytes =
    or_value (behind Word bytes) (length bytes) (number_at (front Word bytes) places)

-- how many of its digits a time has in milliseconds: OpenMetrics has seconds
abbrev pub time_places : Format → ℕ
time_places OpenMetrics = 3
time_places Prometheus = 0

abbrev pub or_time : List ℕ → ℕ → Option Value → Result (ℤ × List ℕ) Fault
or_time rest left None = Err (At Time left)
or_time rest left (Some (Near t)) = Err (At Time left)
or_time rest left (Some Other) = Err (At Time left)
or_time rest left (Some (Parts t)) = Ok (t, rest)

-- a time, in milliseconds
unfoldable pub time_at : Format → List ℕ → Result (ℤ × List ℕ) Fault
time_at format bytes =
    or_time (behind Word bytes) (length bytes) (number_at (front Word bytes) (time_places format))

-- behind a sample of OpenMetrics an exemplar may stand: ` # {`, and what is left of it
unfoldable pub exemplar_at : List ℕ → Result Bool Fault
exemplar_at bytes = do
  a ← byte_at 32 After bytes
  b ← byte_at 35 After a
  c ← byte_at 32 After b
  d ← byte_at 123 After c
  Ok true

abbrev pub tail_in : Format → List ℕ → Result Bool Fault
tail_in OpenMetrics bytes = exemplar_at bytes
tail_in Prometheus bytes = Err (At After (length bytes))

-- whether an exemplar stands behind a sample
unfoldable pub tail_at : Format → List ℕ → Result Bool Fault
tail_at format [] = Ok false
tail_at format (c ∷ rest) = tail_in format (c ∷ rest)

unfoldable pub sample_at : Format → ℕ → List ℕ → Result Sampled Fault
sample_at format places line = do
  name ← name_at Metric Name line
  labels ← labels_at format name.1
  value_text ← gap_at format BadValue labels.1
  value ← value_at places value_text
  time_text ← gap_at format Time value.1
  time ← time_at format time_text
  exemplar ← tail_at format time.1
  Ok (record {
    name = name.0;
    labels = labels.0;
    value = value.0;
    time = time.0;
    exemplar = exemplar;
    from_value = length value_text;
    from_time = length time_text;
  })

-- an empty line, which OpenMetrics has none of
abbrev pub empty_in : Format → Result Meaning Fault
empty_in OpenMetrics = Err (At Comment 0)
empty_in Prometheus = Ok nothing

abbrev pub of_comment : Bool → Meaning
of_comment true = end
of_comment false = nothing

unfoldable pub line_in : Format → ℕ → List ℕ → Result Meaning Fault
line_in format places [] = empty_in format
line_in format places (c ∷ rest) =
    if c == 35 then (comment_at format rest >>= λ ends. Ok (of_comment ends))
    else (sample_at format places (c ∷ rest) >>= λ sample. Ok (sampled sample))

-- what a line says, or its first fault
abbrev pub line_at : Format → ℕ → List ℕ → Result Meaning Fault
line_at format places line = line_in format places (after_blanks format line)
