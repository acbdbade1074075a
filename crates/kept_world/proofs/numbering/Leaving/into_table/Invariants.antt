use Rattle.std.proofs.Common.{◌≡◌, ◌++◌, length}
use Rattle.std.specs.List.{AllByRecursion}
use Rattle.kept_world.specs.Sound.{IsAscending, rows_in}
use Rattle.kept_world.proofs.numbering.Leaving.into_table.Given as goal

abbrev pub invariant-loop-labels : goal.invariant-loop-labels
invariant-loop-labels l = record {
  rows : l.numbering ++ rows_in l.rows ≡ l.fn.self;
  ascending : AllByRecursion IsAscending (rows_in l.rows);
}

abbrev pub decreases-loop-labels : goal.decreases-loop-labels
decreases-loop-labels l = length l.rows.entries
