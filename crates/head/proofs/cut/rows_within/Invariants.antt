use Rattle.std.proofs.Common.{◌≡◌, take}
use Rattle.head.specs.HeadRows.{rows_within}
use Rattle.head.proofs.cut.rows_within.Given as goal

-- the rows of the series so far
abbrev pub invariant-loop-place : goal.invariant-loop-place
invariant-loop-place l = l.rows.items ≡ rows_within l.from l.to (take l.place l.head)
