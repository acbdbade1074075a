-- The samples of a part that a query asks for, series by series.
use Rattle.std.specs.Prelude.{ℤ, Bool, ◌&&◌, List}
use Rattle.std.specs.List.{filter}
use Rattle.labels.specs.Labels.{Labels, Point}
use Rattle.labels.specs.Contents.{Content, in_range}
use Rattle.labels.specs.Rows.{points_of}
use Rattle.labels.specs.Parts.{Part, rows_in, part_kept}
use Rattle.matchers.specs.Satisfies.{satisfies_all}
use Rattle.matchers.specs.Views.{QueryView}

-- whether a query asks for a point
abbrev pub asks : QueryView → Point → Bool
asks query p = satisfies_all query.matchers p.0 && in_range query.from query.to p.1

-- the samples of a label set that the query asks for
abbrev pub asked_of : QueryView → Labels → List (ℤ × ℤ) → List (ℤ × ℤ)
asked_of query l ss = filter (λ (s : ℤ × ℤ). asks query (l, s.0)) ss

-- the samples of a part that the query asks for
abbrev pub asked_points : QueryView → Part → Content
asked_points query part = points_of (rows_in (part_kept (asks query) part))
