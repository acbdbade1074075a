-- Ranges of times, one after another.
use Rattle.std.specs.Prelude.{◌≡◌, ℤ, pos, ◌+ℤ◌, ◌≤ℤ◌, ◌<ℤ◌, List, [], ◌∷◌, ◌++◌}
use Rattle.block_outputs.specs.declared.tiles.Stretch.{Stretch}

-- the tiles of a closed range of times: each begins after the one before it ends, and together they
-- are the range
abbrev pub AreTiles : ℤ → ℤ → List Stretch → Type 0
AreTiles from to [] = to <ℤ from
AreTiles from to (s ∷ ss) =
    (s.from ≡ from) × (from ≤ℤ s.to) × (s.to ≤ℤ to) × AreTiles (s.to +ℤ pos 1) to ss

-- the tiles of the times of a range before the next
abbrev pub AreTilesUpTo : ℤ → ℤ → ℤ → List Stretch → Type 0
AreTilesUpTo from next to tiles =
    (rest : List Stretch) → AreTiles next to rest → AreTiles from to (tiles ++ rest)
