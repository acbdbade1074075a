use Rattle.std.proofs.Common.{◌≡◌, ◌+◌, drop, length}
use Rattle.requests.specs.Rows.{batch_of}
use Rattle.requests.proofs.write.are_few.Given as goal

-- what is left of the room, for the rows that are left
abbrev pub invariant-loop-row : goal.invariant-loop-row
invariant-loop-row l =
    l.room + length (batch_of l.rows) ≡ 4096 + length (batch_of (drop l.row-index l.rows))
