use Rattle.std.proofs.Common.{map, take}
use Rattle.remote_write.specs.Reading.{series_seen}
use Rattle.remote_requests.proofs.RowTurns.{RowsSoFar}
use Rattle.remote_requests.proofs.series.received.Given as goal

abbrev pub invariant-loop-series : goal.invariant-loop-series
invariant-loop-series l =
    RowsSoFar l.now (map series_seen (take l.series-index l.all)) l.rows.items l.initial.left l.left
