-- Lists of rows as one list.
use Rattle.std.specs.Prelude.{ℕ, List, [], Vec, map}
use Rattle.std.proofs.Common.{Global}
use Rattle.labels.specs.Rows.{Row, AreRows}
use Rattle.series_merge.specs.Merging.{laid_each}

-- the rows of each list
abbrev pub lists_in : List (Vec Row Global) → List (List Row)
lists_in lists = map (λ l. l.items) lists

-- these are the rows of what the lists hold together: at each label set and time the sample of the
-- last list that has one there
abbrev pub IsJoined : List (List Row) → List Row → Type 0
IsJoined lists rows = AreRows rows (laid_each [] lists)
