use Rattle.std.proofs.Common.{◌≡◌, ◌+◌, drop, length}
use Rattle.requests.specs.Rows.{batch_of}
use Rattle.query_http.proofs.note.samples_in.Given as goal

-- what was counted, and what is left
abbrev pub invariant-loop-row : goal.invariant-loop-row
invariant-loop-row l =
    l.count + length (batch_of (drop l.row-index l.rows)) ≡ length (batch_of l.rows)
