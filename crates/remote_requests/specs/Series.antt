-- What a series of a write comes to: a row of the store, and what is left out of it.
use Rattle.std.specs.Prelude.{◌≡◌, ℕ, ◌+◌, ℤ, ◌-ℤ◌, pos, Bool, true, false, not, ◌&&◌, List, []}
use Rattle.std.specs.Prelude.{◌∷◌, ◌++◌}
use Rattle.std.specs.Prelude.{length, map, filter, nat_le, nat_lt, int_lt, Option, None, Some}
use Rattle.std.specs.Prelude.{is_none, if◌then◌else◌, Result, Ok, Err}
use Rattle.std.specs.List.{list_all, sum_by, AllZip}
use Rattle.std.specs.Str.{is_utf8}
use Rattle.labels.specs.declared.error.LabelError.{LabelError}
use Rattle.labels.specs.declared.error.LabelError.TheVariants as labels
use Rattle.labels.specs.Contents.{is_time}
use Rattle.labels.specs.LabelSets.{refusal_of, IsMadeOf}
use Rattle.labels.specs.Labels.{Labels}
use Rattle.labels.specs.Rows.{Row}
use Rattle.remote_write.specs.Format.{LabelValue, SampleValue, SeriesValue}
use Rattle.stored_doubles.specs.Stored.{IsStoredFor}
use Rattle.remote_requests.specs.declared.left.LeftOut.{LeftOut}
use Rattle.remote_requests.specs.declared.left.LeftOut.TheVariants as reasons
use Rattle.remote_requests.specs.Left.{times}
use Rattle.remote_requests.specs.Names.{names_metric}

-- names and values as they were sent
abbrev pub label_pair : LabelValue → List ℕ × List ℕ
label_pair l = (l.name, l.value)

abbrev pub label_pairs : List LabelValue → List (List ℕ × List ℕ)
label_pairs ls = map label_pair ls

-- whether a name and its value are UTF-8
abbrev pub is_text_pair : List ℕ × List ℕ → Bool
is_text_pair pair = is_utf8 pair.0 && is_utf8 pair.1

-- how many bytes names and values have
abbrev pub bytes_in : List (List ℕ × List ℕ) → ℕ
bytes_in [] = 0
bytes_in (pair ∷ pairs) = length pair.0 + length pair.1 + bytes_in pairs

-- the reason that a refusal of labels is
abbrev pub label_reason : LabelError → LeftOut
label_reason labels.BadName = reasons.BadName
label_reason labels.Repeated = reasons.Repeated
label_reason labels.Limit = reasons.TooMany
label_reason labels.Memory = reasons.TooMany

-- why pairs of texts are the labels of no row
abbrev pub pairs_refused : Option LabelError → List (List ℕ × List ℕ) → Option LeftOut
pairs_refused (Some e) pairs = Some (label_reason e)
pairs_refused None pairs = if names_metric pairs then None else Some reasons.BadMetric

-- why a series is left out whole: the first rule that its labels break
abbrev pub labels_refused : List (List ℕ × List ℕ) → Option LeftOut
labels_refused pairs =
    if nat_lt 65536 (bytes_in pairs) then Some reasons.TooLong
    else if not (list_all is_text_pair pairs) then Some reasons.BadText
    else pairs_refused (refusal_of pairs) pairs

-- the label set that pairs make, or why they make none
abbrev pub IsLabelled : List (List ℕ × List ℕ) → Result Labels LeftOut → Type 0
IsLabelled pairs (Ok labels) = (labels_refused pairs ≡ None) × IsMadeOf labels pairs
IsLabelled pairs (Err why) = labels_refused pairs ≡ Some why

-- how far ahead of the clock a time may be, in milliseconds: a day
abbrev pub day : ℤ
day = pos 86400000

-- why a sample is left out: its time is none, or more than a day ahead of the clock
abbrev pub time_refused : ℤ → SampleValue → Option LeftOut
time_refused now s =
    if not (is_time s.time) then Some reasons.NoTime
    else if int_lt now (s.time -ℤ day) then Some reasons.TooFarAhead
    else None

-- whether a sample is kept
abbrev pub is_kept : ℤ → SampleValue → Bool
is_kept now s = is_none (time_refused now s)

-- the samples that are kept, in their order
abbrev pub kept_of : ℤ → List SampleValue → List SampleValue
kept_of now samples = filter (is_kept now) samples

-- the reasons of those that are not
abbrev pub reason_before : Option LeftOut → List LeftOut → List LeftOut
reason_before None more = more
reason_before (Some why) more = why ∷ more

abbrev pub times_refused : ℤ → List SampleValue → List LeftOut
times_refused now [] = []
times_refused now (s ∷ samples) =
    reason_before (time_refused now s) (times_refused now samples)

-- the reasons of the samples of a series
abbrev pub samples_refused : ℤ → Option LeftOut → List SampleValue → List LeftOut
samples_refused now None samples = times_refused now samples
samples_refused now (Some why) samples = times (length samples) why

-- what is left out of a series, in its order: samples, and then each histogram
abbrev pub series_refused : ℤ → SeriesValue → List LeftOut
series_refused now s =
    samples_refused now (labels_refused (label_pairs s.labels)) s.samples
    ++ times s.histograms reasons.Histogram

-- what is left out of all of them
abbrev pub left_of : ℤ → List SeriesValue → List LeftOut
left_of now [] = []
left_of now (s ∷ all) = series_refused now s ++ left_of now all

-- whether a series gives a row: its labels are a label set, and some sample is kept
abbrev pub has_row : ℤ → SeriesValue → Bool
has_row now s =
    is_none (labels_refused (label_pairs s.labels)) && nat_lt 0 (length (kept_of now s.samples))

-- the time of the sample, and the number that is kept for its double
pub record IsSampleOf (sent : SampleValue) (kept : ℤ × ℤ) : Type 0 where
  pub time : kept.0 ≡ sent.time
  pub value : IsStoredFor sent.value kept.1

-- the label set of the labels, and the samples that are kept
pub record IsRowOf (now : ℤ) (sent : SeriesValue) (row : Row) : Type 0 where
  pub labels : IsMadeOf row.0 (label_pairs sent.labels)
  pub samples : AllZip IsSampleOf (kept_of now sent.samples) row.1

-- the row of a series, or none where it gives none
abbrev pub IsRowIn : ℤ → SeriesValue → Option Row → Type 0
IsRowIn now sent None = has_row now sent ≡ false
IsRowIn now sent (Some row) = (has_row now sent ≡ true) × IsRowOf now sent row

-- how many samples and histograms a series has, and how many all have
abbrev pub points_of : SeriesValue → ℕ
points_of s = length s.samples + s.histograms

abbrev pub points_in : List SeriesValue → ℕ
points_in all = sum_by points_of all

-- how many labels all have
abbrev pub labels_in : List SeriesValue → ℕ
labels_in all = sum_by (λ (s : SeriesValue). length s.labels) all

-- whether there are at most 65,536 series, as many samples and histograms, and 1,048,576 labels
abbrev pub are_few : List SeriesValue → Bool
are_few all =
    nat_le (length all) 65536 && nat_le (points_in all) 65536 && nat_le (labels_in all) 1048576
