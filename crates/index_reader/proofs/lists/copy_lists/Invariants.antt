use Rattle.std.proofs.Common.{◌≡◌, ◌++◌, drop}
use Rattle.std.specs.Prelude.{map}
use Rattle.index_reader.specs.References.{references_in}
use Rattle.index_reader.specs.Seen.{bytes_of}
use Rattle.index_reader.proofs.lists.copy_lists.Given as goal

abbrev pub invariant-loop-at : goal.invariant-loop-at
invariant-loop-at l =
    l.copy ++ drop l.at (map references_in (bytes_of l.lists))
    ≡ map references_in (bytes_of l.lists)
