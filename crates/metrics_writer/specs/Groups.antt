-- Rows by their metrics.
use Rattle.std.specs.Prelude.{ℕ, Bool, not, List, [], ◌∷◌, filter}
use Rattle.std.specs.List.{flat_map}
use Rattle.std.specs.Str.{bytes_eq}
use Rattle.labels.specs.Rows.{Row}
use Rattle.metrics_writer.specs.Series.{metric_of}

-- whether a row is one of this metric
abbrev pub is_of : List ℕ → Row → Bool
is_of metric row = bytes_eq metric (metric_of row.0)

-- the rows of a metric, in their order
abbrev pub of_metric : List ℕ → List Row → List Row
of_metric metric rows = filter (is_of metric) rows

-- the metrics but this one
abbrev pub other_metrics : List ℕ → List (List ℕ) → List (List ℕ)
other_metrics metric metrics = filter (λ m. not (bytes_eq m metric)) metrics

-- the metrics of rows, each once, in the order of their first rows
abbrev pub metrics_of : List Row → List (List ℕ)
metrics_of [] = []
metrics_of (row ∷ rows) = metric_of row.0 ∷ other_metrics (metric_of row.0) (metrics_of rows)

-- the rows, those of each metric together
abbrev pub grouped : List Row → List Row
grouped rows = flat_map (λ metric. of_metric metric rows) (metrics_of rows)
