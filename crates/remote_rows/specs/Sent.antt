-- What is sent of answers: the series of their rows.
use Rattle.std.specs.Prelude.{◌≡◌, ℕ, ℤ, Bool, List, [], map, if◌then◌else◌}
use Rattle.labels.specs.Rows.{Row}
use Rattle.stored_doubles.specs.Stored.{IsStoredFor}
use Rattle.protobuf_fields.specs.Format.{EachIs}
use Rattle.snappy.specs.Format.{IsStream}
use Rattle.remote_write.specs.Format.{LabelValue, SampleValue, SeriesValue}
use Rattle.remote_write.specs.Writing.{FitsSample}
use Rattle.remote_read.specs.Answer.{IsResponse, FitResults, response_text}

-- a pair of a label set, as it is sent
abbrev pub label_of : List ℕ × List ℕ → LabelValue
label_of pair = record { name = pair.0; value = pair.1 }

-- the sample as it is sent: its time, and the bits of the double for which its number is kept
pub record IsSampleOf (sample : ℤ × ℤ) (sent : SampleValue) : Type 0 where
  pub time : sent.time ≡ sample.0
  pub value : IsStoredFor sent.value sample.1
  pub fits : FitsSample sent

-- The series that is sent of a row: all its labels, by name, and all its samples, by time. If label
-- sets alone are asked for, it has no samples.
pub record IsSeriesOf (names_alone : Bool) (row : Row) (sent : SeriesValue) : Type 0 where
  pub labels : sent.labels ≡ map label_of row.0
  pub samples : EachIs IsSampleOf (if names_alone then [] else row.1) sent.samples
  pub histograms : sent.histograms ≡ 0

-- the rows of an answer, and whether label sets alone are sent of them
abbrev pub Answer : Type 0
Answer = Bool × List Row

-- a series for each row, in the order of the rows
abbrev pub IsResultOf : Answer → List SeriesValue → Type 0
IsResultOf answer sent = EachIs (IsSeriesOf answer.0) answer.1 sent

-- the text of a reply with one result for each answer, in the order of the answers
pub record IsReplyTo (answers : List Answer) (text : List ℕ) : Type 0 where
  pub results : List (List SeriesValue)
  pub each : EachIs IsResultOf answers results
  pub spelled : text ≡ response_text results
  pub fits : FitResults results

-- The bytes are these answers, as a body: they decompress to a reply, which is read as one result
-- for each answer, each of the series of its rows.
pub record IsBodyOf (answers : List Answer) (bytes : List ℕ) : Type 0 where
  pub text : List ℕ
  pub stream : IsStream bytes text
  pub results : List (List SeriesValue)
  pub response : IsResponse text results
  pub each : EachIs IsResultOf answers results
