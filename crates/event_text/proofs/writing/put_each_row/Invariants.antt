use Rattle.std.proofs.Common.{◌≡◌, ◌++◌, length, take}
use Rattle.std.specs.List.{flat_map, AllByRecursion}
use Rattle.wire.specs.Spelling.{uvarint}
use Rattle.event_text.specs.Spelling.{run_text, IsRun}
use Rattle.event_text.proofs.writing.put_each_row.Given as goal

abbrev pub invariant-loop-row : goal.invariant-loop-row
invariant-loop-row l =
    (l.out.items ≡ l.fn.out.items ++ (uvarint (length l.rows) ++ flat_map run_text (take l.row-index l.rows)))
    × AllByRecursion IsRun (take l.row-index l.rows)
