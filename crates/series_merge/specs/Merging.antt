-- What the rows of several answers list together.
use Rattle.std.specs.Prelude.{◌≡◌, ℤ, T, List, [], ◌∷◌, ◌++◌, map, if◌then◌else◌}
use Rattle.std.specs.List.{All}
use Rattle.std.specs.Ordering.{int_cmp}
use Rattle.std.specs.FinMap.Entries.{put, is_sorted}
use Rattle.labels.specs.Labels.{Labels, point_cmp, same_labels}
use Rattle.labels.specs.Contents.{Content}
use Rattle.labels.specs.Rows.{Row, points_of, IsFull}
use Rattle.labels.specs.Parts.{laid_over}
use Rattle.cover.specs.declared.part_cover.PartAnswer.{PartAnswer}

-- the content with lists of rows laid over it, one list after another
abbrev pub laid_each : Content → List (List Row) → Content
laid_each c [] = c
laid_each c (rows ∷ lists) = laid_each (laid_over (points_of rows) c) lists

abbrev pub row_lists : List PartAnswer → List (List Row)
row_lists answers = map (λ answer. answer.rows.items) answers

-- what answers list together: at each point the sample of the last answer that has one, and of
-- several that this one lists there the first
abbrev pub merged_content : List PartAnswer → Content
merged_content answers = laid_each [] (row_lists answers)

-- the rows of the last list first
abbrev pub newest_first : List (List Row) → List Row
newest_first [] = []
newest_first (rows ∷ lists) = newest_first lists ++ rows

-- rows that have samples, their times ascending
pub record AreRuns (rows : List Row) : Type 0 where
  pub full : All IsFull rows
  pub rise : All (λ r. T (is_sorted int_cmp r.1)) rows

-- samples laid over others: of two at one time the first stands
abbrev pub laid_times : List (ℤ × ℤ) → List (ℤ × ℤ) → List (ℤ × ℤ)
laid_times [] under = under
laid_times (s ∷ ss) under = put int_cmp s.0 s.1 (laid_times ss under)

-- the samples of rows laid over each other: of those at one time the first row's stands
abbrev pub laid_all : List Row → List (ℤ × ℤ)
laid_all [] = []
laid_all (r ∷ rs) = laid_times r.1 (laid_all rs)

-- the samples of rows, those of the last row first
abbrev pub oldest_first : List Row → List (ℤ × ℤ)
oldest_first [] = []
oldest_first (r ∷ rs) = oldest_first rs ++ r.1

-- rows that make the same content over any other
abbrev pub ListAlike : List Row → List Row → Type 0
ListAlike xs ys = (c : Content) → T (is_sorted point_cmp c)
    → laid_over (points_of xs) c ≡ laid_over (points_of ys) c
