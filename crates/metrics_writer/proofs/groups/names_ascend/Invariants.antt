use Rattle.std.proofs.Common.{◌≡◌, [], drop}
use Rattle.metrics_writer.proofs.Grouping.{ascend_from}
use Rattle.metrics_writer.proofs.groups.names_ascend.Given as goal

abbrev pub invariant-loop-row : goal.invariant-loop-row
invariant-loop-row l = ascend_from l.last (drop l.row-index l.rows) ≡ ascend_from [] l.rows
