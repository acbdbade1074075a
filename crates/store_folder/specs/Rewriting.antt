-- Blocks that are written anew.
use Rattle.std.specs.Prelude.{◌≡◌, List, [], ◌∷◌}
use Rattle.head.specs.Heads.{BlockPart}
use Rattle.labels.specs.Parts.{rows_in}
use Rattle.labels.specs.Rows.{points_of}

-- Each block has the samples of the other's block at the same place. So a block may be written anew
-- by its rows: without its deletions, and without series that have no sample left.
abbrev pub HaveSame : List BlockPart → List BlockPart → Type 0
HaveSame [] [] = Unit {0}
HaveSame [] (b ∷ new) = ⊥
HaveSame (a ∷ old) [] = ⊥
HaveSame (a ∷ old) (b ∷ new) =
    (points_of (rows_in a.part) ≡ points_of (rows_in b.part)) × HaveSame old new
