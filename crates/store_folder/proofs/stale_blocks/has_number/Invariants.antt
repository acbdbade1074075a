use Rattle.std.proofs.Common.{◌≡◌, drop}
use Rattle.data_folder.specs.Sweeping.{names_in}
use Rattle.store_folder.specs.Sweeps.{has_number}
use Rattle.store_folder.proofs.stale_blocks.has_number.Given as goal

abbrev pub invariant-loop-name : goal.invariant-loop-name
invariant-loop-name l =
    has_number (names_in l.names) ≡ has_number (names_in (drop l.name-index l.names))
