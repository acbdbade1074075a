use Rattle.std.proofs.Common.{◌≡◌, drop}
use Rattle.std.specs.List.{list_all}
use Rattle.block.specs.Opening.{is_known}
use Rattle.block.proofs.opening.are_known.Given as goal

abbrev pub invariant-loop-deletion : goal.invariant-loop-deletion
invariant-loop-deletion l =
    list_all (is_known l.index.series) (drop l.deletion-index l.deletions)
    ≡ list_all (is_known l.index.series) l.deletions
