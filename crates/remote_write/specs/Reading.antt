-- Reading a body from the front, as far as the first fault.
use Rattle.std.specs.Prelude.{◌≡◌, ◌≤◌, ℕ, ◌+◌, Bool, true, false, List, [], ◌∷◌, ◌++◌, length, map}
use Rattle.std.specs.Prelude.{◌==◌, if◌then◌else◌, Result, Ok, Err}
use Rattle.std.specs.Int.{w64, cast_signed}
use Rattle.wire.specs.Outcome.{◌>>=◌}
use Rattle.protobuf_fields.specs.Format.{Value, Number, Eight, Text, Four}
use Rattle.protobuf_fields.specs.Reading.{Refusal, message_at}
use Rattle.remote_write.specs.declared.label.Label.{Label}
use Rattle.remote_write.specs.declared.sample.Sample.{Sample}
use Rattle.remote_write.specs.declared.series.Series.{Series}
use Rattle.remote_write.specs.declared.error.ReadError.{ReadError}
use Rattle.remote_write.specs.declared.error.ReadError.TheVariants as errors
use Rattle.remote_write.specs.Format.{LabelValue, SampleValue, SeriesValue}
use Rattle.remote_write.specs.Format.{label_allows, sample_allows, series_allows, request_allows}

-- what stands in memory, without where
abbrev pub label_seen : Label → LabelValue
label_seen l = record { name = l.name.now; value = l.value.now }

abbrev pub sample_seen : Sample → SampleValue
sample_seen s = record { time = s.time; value = s.value }

abbrev pub series_seen : Series → SeriesValue
series_seen s = record {
  labels = map label_seen s.labels.items;
  samples = map sample_seen s.samples.items;
  histograms = s.histograms;
}

-- what a field makes of a label
abbrev pub label_step : LabelValue → Value → Result LabelValue Refusal
label_step l (Text n text) =
    if n == 1 then Ok (record { name = text; value = l.value })
    else if n == 2 then Ok (record { name = l.name; value = text })
    else Ok l
label_step l (Number n v) = Ok l
label_step l (Eight n v) = Ok l
label_step l (Four n v) = Ok l

abbrev pub no_label : LabelValue
no_label = record { name = []; value = [] }

unfoldable pub label_at : List ℕ → Result LabelValue Refusal
label_at bytes = message_at label_allows label_step (length bytes) no_label bytes

-- what a field makes of a sample
abbrev pub sample_step : SampleValue → Value → Result SampleValue Refusal
sample_step s (Text n text) = Ok s
sample_step s (Number n v) =
    if n == 2 then Ok (record { time = cast_signed w64 v; value = s.value }) else Ok s
sample_step s (Eight n v) = if n == 1 then Ok (record { time = s.time; value = v }) else Ok s
sample_step s (Four n v) = Ok s

abbrev pub no_sample : SampleValue
no_sample = record { time = cast_signed w64 0; value = 0 }

unfoldable pub sample_at : List ℕ → Result SampleValue Refusal
sample_at bytes = message_at sample_allows sample_step (length bytes) no_sample bytes

-- what a field makes of a series
abbrev pub with_label : SeriesValue → LabelValue → SeriesValue
with_label s l =
    record { labels = s.labels ++ l ∷ []; samples = s.samples; histograms = s.histograms }

abbrev pub with_sample : SeriesValue → SampleValue → SeriesValue
with_sample s x =
    record { labels = s.labels; samples = s.samples ++ x ∷ []; histograms = s.histograms }

abbrev pub with_histogram : SeriesValue → SeriesValue
with_histogram s =
    record { labels = s.labels; samples = s.samples; histograms = s.histograms + 1 }

unfoldable pub series_step : SeriesValue → Value → Result SeriesValue Refusal
series_step s (Text n text) =
    if n == 1 then (label_at text >>= λ l. Ok (with_label s l))
    else if n == 2 then (sample_at text >>= λ x. Ok (with_sample s x))
    else if n == 4 then Ok (with_histogram s)
    else Ok s
series_step s (Number n v) = Ok s
series_step s (Eight n v) = Ok s
series_step s (Four n v) = Ok s

abbrev pub no_series : SeriesValue
no_series = record { labels = []; samples = []; histograms = 0 }

unfoldable pub series_at : List ℕ → Result SeriesValue Refusal
series_at bytes = message_at series_allows series_step (length bytes) no_series bytes

-- what a field makes of the series so far
unfoldable pub request_step : List SeriesValue → Value → Result (List SeriesValue) Refusal
request_step all (Text n text) =
    if n == 1 then (series_at text >>= λ s. Ok (all ++ s ∷ [])) else Ok all
request_step all (Number n v) = Ok all
request_step all (Eight n v) = Ok all
request_step all (Four n v) = Ok all

unfoldable pub request_at : List ℕ → Result (List SeriesValue) Refusal
request_at bytes = message_at request_allows request_step (length bytes) [] bytes

-- the series of a body, after others
abbrev pub request_from : List SeriesValue → List ℕ → Result (List SeriesValue) Refusal
request_from front bytes = message_at request_allows request_step (length bytes) front bytes

-- a field that is no series
abbrev pub IsSkipped : Value → Type 0
IsSkipped v = (front : List SeriesValue) → request_step front v ≡ Ok front

-- a refusal as it is returned
abbrev pub is_memory : ReadError → Bool
is_memory errors.Memory = true
is_memory e = false

abbrev pub or_error : {A : Type 0} → Result A Refusal → Result A ReadError
or_error (Ok x) = Ok x
or_error (Err e) = Err (errors.Fault e.0 e.1)

-- a fault has its place within so many bytes
abbrev pub IsWithin : ℕ → ReadError → Type 0
IsWithin n errors.Memory = Unit {0}
IsWithin n (errors.Fault fault left) = left ≤ n

-- the same refusal, where so many bytes stand behind
abbrev pub behind : ℕ → ReadError → ReadError
behind after errors.Memory = errors.Memory
behind after (errors.Fault fault left) = errors.Fault fault (left + after)
