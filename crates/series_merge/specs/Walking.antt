-- The rows of several lists, one label set after another.
use Rattle.std.specs.Prelude.{◌≡◌, ◌<◌, ◌++◌, false, List, [], ◌∷◌, Option, None, Some, length}
use Rattle.std.specs.Prelude.{if◌then◌else◌}
use Rattle.std.specs.Borrow.{Bor}
use Rattle.std.specs.List.{All}
use Rattle.std.specs.Ordering.{is_lt}
use Rattle.labels.specs.Labels.{Labels, labels_cmp, same_labels}
use Rattle.labels.specs.Rows.{Row}

-- the first row has the label set
abbrev pub StartsWith : Labels → List Row → Type 0
StartsWith l [] = ⊥
StartsWith l (m ∷ ms) = m.0 ≡ l

-- the first row, if there is one, has another label set
abbrev pub StartsApart : Labels → List Row → Type 0
StartsApart l [] = Unit {0}
StartsApart l (m ∷ ms) = same_labels m.0 l ≡ false

-- the first row, if there is one, has no lesser label set
abbrev pub StartsFrom : Labels → List Row → Type 0
StartsFrom l [] = Unit {0}
StartsFrom l (m ∷ ms) = is_lt (labels_cmp m.0 l) ≡ false

-- the rows that come first and have the label set, and the others
abbrev pub front_of : Labels → List Row → List Row
front_of l [] = []
front_of l (r ∷ rs) = if same_labels r.0 l then r ∷ front_of l rs else []

abbrev pub behind : Labels → List Row → List Row
behind l [] = []
behind l (r ∷ rs) = if same_labels r.0 l then behind l rs else r ∷ rs

-- of each list the rows that come first and have the label set
abbrev pub fronts : Labels → List (List Row) → List Row
fronts l [] = []
fronts l (p ∷ ps) = front_of l p ++ fronts l ps

abbrev pub all_rows : List (List Row) → List Row
all_rows [] = []
all_rows (p ∷ ps) = p ++ all_rows ps

-- the least label set with which lists begin; none, if all are empty
abbrev pub IsLeast : Option (Bor Labels) → List (List Row) → Type 0
IsLeast None ps = all_rows ps ≡ []
IsLeast (Some l) ps = All (StartsFrom l.now) ps × (0 < length (fronts l.now ps))
