-- Rows in any order as runs.
use Rattle.std.specs.Prelude.{◌≡◌, ◌+◌, ℤ, List, [], ◌∷◌, length, reverse}
use Rattle.std.specs.FinMap.Entries.{put}
use Rattle.labels.specs.Labels.{Labels, Point, point_cmp}
use Rattle.labels.specs.Contents.{Content}
use Rattle.labels.specs.Rows.{Row, points_in, points_of}
use Rattle.exposition.specs.Runs.{AreRising, content_of, count_of}

-- samples put over a content, one after another
abbrev pub put_each : Content → List (Point × ℤ) → Content
put_each c [] = c
put_each c (e ∷ es) = put_each (put point_cmp e.0 e.1 c) es

-- samples of a label set were put over those of runs, one after another
pub record ArePut (l : Labels) (ss : List (ℤ × ℤ)) (old new : List Row) : Type 0 where
  pub content : content_of (reverse new) ≡ put_each (content_of (reverse old)) (points_in l ss)
  pub count : count_of (reverse new) ≡ count_of (reverse old) + length ss

-- runs, of which the last counts first, hold the samples of rows, in which the last stands
pub record ArePutOf (rows runs : List Row) : Type 0 where
  pub content : content_of (reverse runs) ≡ put_each [] (points_of rows)
  pub count : count_of (reverse runs) ≡ count_of rows

-- the same of runs whose times ascend, of which the first counts: none of the samples is lost
pub record IsSameOf (rows runs : List Row) : Type 0 where
  pub content : content_of runs ≡ put_each [] (points_of rows)
  pub count : count_of runs ≡ count_of rows
  pub rise : AreRising runs
