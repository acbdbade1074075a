-- The fault of a line.
use Rattle.std.specs.Prelude.{ℕ, ◌+◌, ◌-◌, Bool, ◌&&◌, List, ◌∷◌, length, codes, Option, None}
use Rattle.std.specs.Prelude.{Some, Result, Ok, Err, if◌then◌else◌}
use Rattle.std.specs.List.{list_all}
use Rattle.std.specs.Str.{is_utf8}
use Rattle.labels.specs.Contents.{is_time}
use Rattle.labels.specs.LabelSets.{refusal_of}
use Rattle.labels.specs.declared.error.LabelError.{LabelError}
use Rattle.open_metrics.specs.declared.comments.Format.{Format}
use Rattle.open_metrics.specs.declared.error.Fault.{Fault}
use Rattle.open_metrics.specs.declared.error.Fault.TheVariants.{Memory, At}
use Rattle.open_metrics.specs.Labels.{Pair}
use Rattle.open_metrics.specs.Lines.{Sampled, Meaning, nothing, end, sampled, line_at}
use Rattle.exposition.specs.declared.error.Cause.{Cause}
use Rattle.exposition.specs.declared.error.Cause.TheVariants.{Line, Text, Labels, Time, End}

-- the column at which so many bytes of a line are left
abbrev pub column_of : List ℕ → ℕ → ℕ
column_of line left = length line - left + 1

-- the label that names the metric
abbrev pub name_label : List ℕ
name_label = codes "__name__"

-- the pairs of a sample: the name of its metric, and its labels
abbrev pub pairs_of_sample : Sampled → List Pair
pairs_of_sample s = (name_label, s.name) ∷ s.labels

abbrev pub is_utf8_pair : Pair → Bool
is_utf8_pair p = is_utf8 p.0 && is_utf8 p.1

abbrev pub are_utf8 : List Pair → Bool
are_utf8 pairs = list_all is_utf8_pair pairs

abbrev pub refused_for : Option LabelError → Option Cause
refused_for None = None
refused_for (Some e) = Some (Labels e)

-- why pairs make no label set, if they make none: a text is no UTF-8, or they break a rule
abbrev pub pairs_fault : List Pair → Option Cause
pairs_fault pairs = if are_utf8 pairs then refused_for (refusal_of pairs) else Some Text

abbrev pub or_time : List ℕ → Sampled → Option Cause → Option (ℕ × Cause)
or_time line s (Some cause) = Some (1, cause)
or_time line s None =
    if is_time s.time then None else Some (column_of line s.from_time, Time)

-- the column and the cause for which a sample is refused: of its labels, and then of its time
abbrev pub sample_fault : List ℕ → Sampled → Option (ℕ × Cause)
sample_fault line s = or_time line s (pairs_fault (pairs_of_sample s))

abbrev pub meaning_fault : List ℕ → Result Meaning Fault → Option (ℕ × Cause)
meaning_fault line (Ok nothing) = None
meaning_fault line (Ok end) = Some (1, End)
meaning_fault line (Ok (sampled s)) = sample_fault line s
meaning_fault line (Err Memory) = None
meaning_fault line (Err (At reason left)) = Some (column_of line left, Line reason)

-- the column and the cause for which a line is refused, if it is: it is no line, or an end before
-- the end, or it has a sample that is refused
abbrev pub line_fault : Format → ℕ → List ℕ → Option (ℕ × Cause)
line_fault format places line = meaning_fault line (line_at format places line)
