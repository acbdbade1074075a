-- What rows list, one after another.
use Rattle.std.specs.Prelude.{◌≡◌, ℤ, Bool, List, [], ◌∷◌, ◌++◌}
use Rattle.std.specs.Ordering.{is_lt, eq_by_cmp}
use Rattle.std.specs.FinMap.Entries.{put}
use Rattle.labels.specs.Labels.{Point, point_cmp}
use Rattle.labels.specs.Contents.{Content}
use Rattle.labels.specs.Rows.{Row, points_of, AreRows}
use Rattle.cover.specs.declared.part_cover.PartAnswer.{PartAnswer}
use Rattle.auditor.specs.declared.flaw.Flaw.{Flaw}
use Rattle.auditor.specs.declared.flaw.Flaw.TheVariants.{WrongMerge}
use Rattle.auditor.specs.Errors.{OrMemory}

-- The samples that the rows of the answers list, in the order in which they are listed.
abbrev pub listed : List PartAnswer → List (Point × ℤ)
listed [] = []
listed (answer ∷ answers) = points_of answer.rows.items ++ listed answers

-- The content after these samples are put into it, one after another: each point has the value that
-- was put last.
abbrev pub with_each : List (Point × ℤ) → Content → Content
with_each [] content = content
with_each (sample ∷ samples) content = with_each samples (put point_cmp sample.0 sample.1 content)

-- The content that maps each listed label set and time to the value that is listed last.
abbrev pub last_listed : List PartAnswer → Content
last_listed answers = with_each (listed answers) []

-- Why rows are refused: they are not those of what the answers list, or no memory.
abbrev pub IsUnmerged : List PartAnswer → List Row → Flaw → Type 0
IsUnmerged answers rows flaw =
    OrMemory (λ f. (f ≡ WrongMerge) × (AreRows rows (last_listed answers) → ⊥)) flaw

-- Whether a sample stands before another, by label set and then by time.
abbrev pub point_before : Point × ℤ → Point × ℤ → Bool
point_before x y = is_lt (point_cmp x.0 y.0)

-- Whether two samples are of one label set at one time.
abbrev pub same_point : Point × ℤ → Point × ℤ → Bool
same_point x y = eq_by_cmp point_cmp x.0 y.0
