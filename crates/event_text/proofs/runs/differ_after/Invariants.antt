use Rattle.std.proofs.Common.{◌≡◌, ◌∷◌, drop}
use Rattle.event_text.specs.Runs.{differ}
use Rattle.event_text.proofs.runs.differ_after.Given as goal

abbrev pub invariant-loop-row : goal.invariant-loop-row
invariant-loop-row l =
    differ (l.last ∷ drop l.row-index l.others) ≡ differ (l.fn.first ∷ l.fn.others)
