use Rattle.std.proofs.Common.{◌≡◌, drop}
use Rattle.std.specs.List.{list_all}
use Rattle.block_walk.specs.BlockFiles.Reading.{is_known}
use Rattle.block_walk.proofs.deletions.are_known.Given as goal

abbrev pub invariant-loop-deletion : goal.invariant-loop-deletion
invariant-loop-deletion l =
    list_all (is_known l.entries) (drop l.deletion-index l.deletions)
    ≡ list_all (is_known l.entries) l.deletions
