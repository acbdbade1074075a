use Rattle.std.proofs.Common.{◌≡◌, drop}
use Rattle.std.specs.List.{list_all}
use Rattle.event_text.specs.Runs.{is_filled}
use Rattle.event_text.proofs.runs.are_filled.Given as goal

abbrev pub invariant-loop-row : goal.invariant-loop-row
invariant-loop-row l =
    list_all is_filled (drop l.row-index l.rows) ≡ list_all is_filled l.rows
