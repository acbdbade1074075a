-- What a part has under a label set.
use Rattle.std.specs.Prelude.{◌≡◌, ◌≢◌, ℕ, ℤ, Bool, true, List, [], ◌∷◌, Option, None, Some, map}
use Rattle.std.specs.List.{Contains}
use Rattle.std.specs.FinMap.Entries.{find}
use Rattle.labels.specs.Labels.{Labels, point_cmp}
use Rattle.labels.specs.Rows.{Row, points_of}
use Rattle.labels.specs.Parts.{Part, labels_in, references_where, row_at, rows_in, over}
use Rattle.block.specs.Blocks.{Shown}
use Rattle.head.specs.Blocks.{part_in}

-- what a part has at a point
abbrev pub part_value : Labels × ℤ → Part → Option ℤ
part_value q part = find point_cmp q (points_of (rows_in part))

-- what blocks have at a point
abbrev pub blocks_value : Labels × ℤ → List Shown → Option ℤ
blocks_value q blocks = find point_cmp q (over [] (map (λ b. b.part) (map part_in blocks)))

-- the value of the first of some samples
abbrev pub first_value : List (ℤ × ℤ) → Option ℤ
first_value [] = None
first_value (s ∷ ss) = Some s.1

-- the references are those of the label sets that pass some test, which this one passes
pub record IsCandidates (labels : Labels) (part : Part) (found : List ℕ) : Type 0 where
  pub test : Labels → Bool
  pub passed : test labels ≡ true
  pub listed : found ≡ references_where test part

-- the reference of a label set, if the part has a series of it
abbrev pub IsReferenceOf : Labels → Part → Option ℕ → Type 0
IsReferenceOf labels part None =
    (row : ℕ × Row) → Contains part row → row.1.0 ≢ labels
IsReferenceOf labels part (Some r) = labels_in (row_at r part) ≡ Some labels
