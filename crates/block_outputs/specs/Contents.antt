-- What outputs hold together.
use Rattle.std.specs.Prelude.{◌≡◌, ℤ, List, [], ◌∷◌}
use Rattle.std.specs.FinMap.Entries.{where_key}
use Rattle.labels.specs.Labels.{point_cmp}
use Rattle.labels.specs.Contents.{Content, in_range}
use Rattle.labels.specs.Rows.{Row, points_of}
use Rattle.labels.specs.Parts.{laid_over}
use Rattle.series_merge.specs.Merging.{laid_each}
use Rattle.block_outputs.specs.declared.tiles.Stretch.{Stretch}
use Rattle.block_outputs.specs.Joined.{IsJoined}
use Rattle.block_outputs.specs.Tiles.{AreTiles}

-- the samples of a content in a closed range of times
abbrev pub restricted : ℤ → ℤ → Content → Content
restricted from to c = where_key {X = ℤ} point_cmp (λ p. in_range from to p.1) c

-- a content with others laid over it, one after another
abbrev pub laid_all : Content → List Content → Content
laid_all c [] = c
laid_all c (d ∷ ds) = laid_all (laid_over d c) ds

-- each list of rows holds what its content has in a range of times
abbrev pub AreRestrictions : Stretch → List (List Row) → List Content → Type 0
AreRestrictions s [] [] = Unit {0}
AreRestrictions s [] (c ∷ cs) = ⊥
AreRestrictions s (rows ∷ lists) [] = ⊥
AreRestrictions s (rows ∷ lists) (c ∷ cs) =
    (laid_over (points_of rows) [] ≡ restricted s.from s.to c) × AreRestrictions s lists cs

-- each output has the rows of what the contents have in its range of times, in which the later
-- content wins
abbrev pub AreOutputsOf : List Content → List Stretch → List (List Row) → Type 0
AreOutputsOf cs [] [] = Unit {0}
AreOutputsOf cs [] (rows ∷ outputs) = ⊥
AreOutputsOf cs (s ∷ ss) [] = ⊥
AreOutputsOf cs (s ∷ ss) (rows ∷ outputs) =
    ((lists : List (List Row)) × AreRestrictions s lists cs × IsJoined lists rows)
    × AreOutputsOf cs ss outputs

-- the content of outputs, all together, is what the contents have in a range of times, in which the
-- later content wins
abbrev pub HoldAll : List Content → ℤ → ℤ → List (List Row) → Type 0
HoldAll cs from to outputs = laid_each [] outputs ≡ restricted from to (laid_all [] cs)
