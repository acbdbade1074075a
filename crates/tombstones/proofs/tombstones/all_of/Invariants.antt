use Rattle.std.proofs.Common.{◌≡◌, ◌++◌, take}
use Rattle.std.specs.Prelude.{map}
use Rattle.tombstones.specs.Covering.{interval}
use Rattle.tombstones.proofs.tombstones.all_of.Given as goal

abbrev pub invariant-loop-at : goal.invariant-loop-at
invariant-loop-at l =
    l.all.items ≡ l.deletions ++ map (interval l.from l.to) (take l.at l.references)
