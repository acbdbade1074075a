-- Parts, what is asked of them, and the content of a list of them.
use Rattle.std.specs.Prelude.{◌≡◌, ◌<◌, ℕ, ℤ, Bool, false, not, ◌&&◌, T, List, [], ◌∷◌, Option}
use Rattle.std.specs.Prelude.{None, Some, nat_eq, map, if◌then◌else◌}
use Rattle.std.specs.List.{filter, list_any, Contains}
use Rattle.std.specs.List.Sorted.{IsStrictlyIncreasing}
use Rattle.std.specs.Ordering.{int_cmp}
use Rattle.std.specs.Str.{bytes_eq}
use Rattle.std.specs.FinMap.Entries.{put, is_sorted}
use Rattle.labels.specs.Labels.{Labels, Point, point_cmp, same_labels, value_of}
use Rattle.labels.specs.Contents.{Content, in_range}
use Rattle.labels.specs.Rows.{Row, points_of}

-- a part: references, each with its label set and its undeleted samples
abbrev pub Part : Type 0
Part = List (ℕ × Row)

-- the references of a part
abbrev pub references : Part → List ℕ
references part = map (λ row. row.0) part

-- the references of the rows that pass a test
abbrev pub references_of : (ℕ × Row → Bool) → Part → List ℕ
references_of test part = map (λ row. row.0) (filter test part)

-- the references whose label set passes a test
abbrev pub references_where : (Labels → Bool) → Part → List ℕ
references_where test part = references_of (λ row. test row.1.0) part

-- whether a label set has this value under the name; no label set has an empty value
abbrev pub carries : List ℕ → List ℕ → Labels → Bool
carries name value labels = not (bytes_eq value []) && bytes_eq (value_of labels name) value

-- whether one of the samples lies in the closed range
abbrev pub has_sample : ℤ → ℤ → List (ℤ × ℤ) → Bool
has_sample from to samples = list_any (λ (s : ℤ × ℤ). in_range from to s.0) samples

-- the references with an undeleted sample in the closed range
abbrev pub live_references : ℤ → ℤ → Part → List ℕ
live_references from to part = references_of (λ row. has_sample from to row.1.1) part

-- the row under a reference
abbrev pub row_at : ℕ → Part → Option Row
row_at r [] = None
row_at r (row ∷ rows) = if nat_eq row.0 r then Some row.1 else row_at r rows

-- the label set of a row, if there is one
abbrev pub labels_in : Option Row → Option Labels
labels_in None = None
labels_in (Some row) = Some row.0

-- those of the samples whose times lie in the closed range
abbrev pub within : ℤ → ℤ → List (ℤ × ℤ) → List (ℤ × ℤ)
within from to samples = filter (λ (s : ℤ × ℤ). in_range from to s.0) samples

-- the samples of a row in the closed range, none where there is no row
abbrev pub samples_within : ℤ → ℤ → Option Row → List (ℤ × ℤ)
samples_within from to None = []
samples_within from to (Some row) = within from to row.1

-- no label set stands twice
abbrev pub AreDistinct : Part → Type 0
AreDistinct [] = Unit {0}
AreDistinct (row ∷ rows) =
    ((other : ℕ × Row) → Contains rows other → same_labels row.1.0 other.1.0 ≡ false)
    × AreDistinct rows

-- what every part keeps: references ascend strictly and are below 2^32, no label set stands
-- twice, and the times of a series ascend strictly
pub record IsPart (part : Part) : Type 0 where
  pub ascending : IsStrictlyIncreasing (references part)
  pub in_range : (r : ℕ) → Contains (references part) r → r < 4294967296
  pub distinct : AreDistinct part
  pub times : (row : ℕ × Row) → Contains part row → T (is_sorted int_cmp row.1.1)

-- the rows of a part, without their references
abbrev pub rows_in : Part → List Row
rows_in part = map (λ r. r.1) part

-- the content with each of these samples in it; of several at one point the first
abbrev pub laid_over : List (Point × ℤ) → Content → Content
laid_over [] c = c
laid_over (e ∷ es) c = put point_cmp e.0 e.1 (laid_over es c)

-- the content with the parts laid over it, one after another
abbrev pub over : Content → List Part → Content
over c [] = c
over c (part ∷ parts) = over (laid_over (points_of (rows_in part)) c) parts

-- the content of a list of parts: at each point the sample of the last part that has one
abbrev pub content_of : List Part → Content
content_of parts = over [] parts

-- the part with the samples that pass a test
abbrev pub part_kept : (Point → Bool) → Part → Part
part_kept p part = map (λ r. (r.0, (r.1.0, filter (λ s. p (r.1.0, s.0)) r.1.1))) part
