use Rattle.std.proofs.Common.{map, take}
use Rattle.std.specs.List.{AllZip}
use Rattle.remote_read.specs.Reading.{query_seen}
use Rattle.remote_requests.specs.Queries.{IsReadingOf}
use Rattle.remote_requests.proofs.reads.readings_of.Given as goal

abbrev pub invariant-loop-query : goal.invariant-loop-query
invariant-loop-query l =
    AllZip IsReadingOf (map query_seen (take l.query-index l.sent)) l.readings.items
