use Rattle.std.proofs.Common.{◌≡◌, drop}
use Rattle.data_folder.specs.Sweeping.{is_among, names_in}
use Rattle.data_folder.proofs.sweeping.is_among.Given as goal

abbrev pub invariant-loop-other : goal.invariant-loop-other
invariant-loop-other l =
    is_among (names_in l.names) l.name ≡ is_among (names_in (drop l.other-index l.names)) l.name
