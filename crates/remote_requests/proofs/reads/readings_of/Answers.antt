use Rattle.std.proofs.Common.{map}
use Rattle.std.proofs.lemmas.Result.{err_from_is_err_and}
use Rattle.remote_read.specs.Reading.{query_seen}
use Rattle.remote_requests.specs.Queries.{IsReadingOf}
use Rattle.remote_requests.proofs.Lists.{parted, zip_turn}
use Rattle.remote_requests.proofs.ReadTurns.{queries_fault}
use Rattle.remote_requests.proofs.reads.readings_of.Goals as goal

pub returns-in_err-reading_of : goal.returns-in_err-reading_of
returns-in_err-reading_of c =
    let p = err_from_is_err_and c.from_residual-in_err-reading_of.result
    c.from_residual-in_err-reading_of.ensures.1 in
    rw (p.1, p.2) (queries_fault (map query_seen c.args.sent.now) _ _ _
    c.loop-query.readings.items _
    (parted query_seen c.args.sent.now c.loop-query.query-index c.query-item.result _
    c.loop-query-test.true c.query-item.is) c.loop-query.invariant c.in_err-reading_of.ensures)

pub loop-query-preserved : goal.loop-query-preserved
loop-query-preserved c =
    zip_turn IsReadingOf query_seen c.args.sent.now c.loop-query.query-index c.query-item.result _
    c.loop-query.readings.items _ c.in_ok-reading_of.field-0 c.loop-query-test.true c.query-item.is
    c.loop-query.invariant c.in_ok-reading_of.ensures c.in_ok-push.ensures.items
