-- A part that has grown.
use Rattle.std.specs.Prelude.{◌≡◌, ℤ, List, [], ◌∷◌, ◌++◌}
use Rattle.labels.specs.Parts.{Part}

-- The second part is the first with samples behind the last of its series, and with series behind
-- its last.
abbrev pub GrowsTo : Part → Part → Type 0
GrowsTo [] later = Unit {0}
GrowsTo (row ∷ rows) [] = ⊥
GrowsTo (row ∷ rows) (next ∷ later) =
    (row.0 ≡ next.0) × (row.1.0 ≡ next.1.0)
    × ((more : List (ℤ × ℤ)) × (next.1.1 ≡ row.1.1 ++ more)) × GrowsTo rows later
