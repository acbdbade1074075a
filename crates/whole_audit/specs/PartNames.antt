-- The names of a state's parts.
use Rattle.std.specs.Prelude.{ℕ, zero, suc, ◌+◌, List, [], ◌∷◌}
use Rattle.postings.specs.declared.part_name.PartName.{PartName}
use Rattle.postings.specs.declared.part_name.PartName.TheVariants.{Block, Head}

-- the names of so many blocks, from this number on, and of the head behind them
abbrev pub names_from : ℕ → ℕ → List PartName
names_from first zero = Head ∷ []
names_from first (suc blocks) = Block first ∷ names_from (first + 1) blocks

-- the names of the parts of a state that has so many blocks: its blocks in order, and its head
abbrev pub part_names : ℕ → List PartName
part_names blocks = names_from 0 blocks
