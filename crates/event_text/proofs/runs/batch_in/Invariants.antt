use Rattle.std.proofs.Common.{◌≡◌, take}
use Rattle.event_text.specs.Runs.{batch_in}
use Rattle.event_text.proofs.runs.batch_in.Given as goal

abbrev pub invariant-loop-row : goal.invariant-loop-row
invariant-loop-row l = l.batch.items ≡ batch_in (take l.row-index l.rows)
