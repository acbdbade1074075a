-- Label sets and rows as text.
use Rattle.std.specs.Prelude.{ℕ, ℤ, Bool, false, not, ◌&&◌, ◌||◌, ◌==◌, List, []}
use Rattle.std.specs.Prelude.{◌∷◌}
use Rattle.std.specs.Prelude.{◌++◌, codes, if◌then◌else◌}
use Rattle.std.specs.List.{flat_map, list_all}
use Rattle.std.specs.Char.{is_ascii_alphabetic, is_ascii_digit}
use Rattle.std.specs.Str.{bytes_eq}
use Rattle.labels.specs.Labels.{Labels, value_of}
use Rattle.labels.specs.Rows.{Row}
use Rattle.metrics_writer.specs.Numbers.{number_text}

-- letters, digits, `_` and `:`
abbrev pub in_metric : ℕ → Bool
in_metric c = (is_ascii_alphabetic c || (is_ascii_digit c || c == 95)) || c == 58

-- whether a text names a metric: `[a-zA-Z_:][a-zA-Z0-9_:]*`
abbrev pub is_metric : List ℕ → Bool
is_metric [] = false
is_metric (c ∷ cs) = not (is_ascii_digit c) && (in_metric c && list_all in_metric cs)

-- the label that names the metric
abbrev pub name_label : List ℕ
name_label = codes "__name__"

abbrev pub metric_of : Labels → List ℕ
metric_of labels = value_of labels name_label

-- a backslash, a quote and the end of a line are escaped
abbrev pub escape : ℕ → List ℕ
escape c =
    if c == 92 then 92 ∷ 92 ∷ []
    else if c == 34 then 92 ∷ 34 ∷ []
    else if c == 10 then 92 ∷ 110 ∷ []
    else c ∷ []

unfoldable pub escaped_text : List ℕ → List ℕ
escaped_text text = flat_map escape text

-- name="text"
unfoldable pub pair_text : List ℕ × List ℕ → List ℕ
pair_text p = p.0 ++ (61 ∷ 34 ∷ escaped_text p.1) ++ 34 ∷ []

abbrev pub is_name_label : List ℕ × List ℕ → Bool
is_name_label p = bytes_eq p.0 name_label

-- a label after this mark, nothing for the name of the metric
abbrev pub label_text : ℕ → List ℕ × List ℕ → List ℕ
label_text mark p = if is_name_label p then [] else mark ∷ pair_text p

-- the mark after a label: a comma follows the first
abbrev pub mark_after : ℕ → List ℕ × List ℕ → ℕ
mark_after mark p = if is_name_label p then mark else 44

-- what ends labels, where there was one
abbrev pub closing : ℕ → List ℕ
closing mark = if mark == 123 then [] else 125 ∷ []

-- labels, the first after this mark
unfoldable pub labels_text : ℕ → Labels → List ℕ
labels_text mark [] = closing mark
labels_text mark (p ∷ ps) = label_text mark p ++ labels_text (mark_after mark p) ps

-- the name of the metric, and its labels in braces, if there are any
unfoldable pub series_text : Labels → List ℕ
series_text labels = metric_of labels ++ labels_text 123 labels

-- a space and a value, a space and a time in seconds
unfoldable pub fields_text : ℕ → ℤ × ℤ → List ℕ
fields_text places s = (32 ∷ number_text places s.1) ++ (32 ∷ number_text 3 s.0)

-- a line for a sample
unfoldable pub line_text : ℕ → List ℕ → ℤ × ℤ → List ℕ
line_text places series s = series ++ fields_text places s ++ 10 ∷ []

unfoldable pub row_text : ℕ → Row → List ℕ
row_text places row = flat_map (line_text places (series_text row.0)) row.1

-- the lines of rows
unfoldable pub rows_text : ℕ → List Row → List ℕ
rows_text places rows = flat_map (row_text places) rows

-- whether a row's label set names a metric
abbrev pub is_of_metric : Row → Bool
is_of_metric row = is_metric (metric_of row.0)
