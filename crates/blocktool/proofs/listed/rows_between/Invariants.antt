use Rattle.std.proofs.Common.{◌≡◌, take}
use Rattle.prometheus_block.specs.Rows.{rows_between}
use Rattle.blocktool.proofs.listed.rows_between.Given as goal

abbrev pub invariant-loop-row : goal.invariant-loop-row
invariant-loop-row l = l.found.items ≡ rows_between l.times.from l.times.to
    (take l.row-index l.rows)
