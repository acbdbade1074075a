use Rattle.std.proofs.Common.{◌<◌, length, map, arith}
use Rattle.std.proofs.lemmas.List.{length-map}
use Rattle.std.proofs.lemmas.Result.{err_from_is_err_and}
use Rattle.remote_read.specs.Reading.{query_seen}
use Rattle.remote_requests.proofs.QueryLaws.{not_packed, not_spelled_at, too_many_at}
use Rattle.remote_requests.proofs.reads.read.Goals as goal

pub returns-in_err-text : goal.returns-in_err-text
returns-in_err-text c =
    let p = err_from_is_err_and c.from_residual.result c.from_residual.ensures.1 in
    rw (p.1, p.2) (not_packed c.args.body.now _ c.in_err-text.ensures.exact)

pub returns-in-Err : goal.returns-in-Err
returns-in-Err c =
    not_spelled_at c.args.body.now c.in_ok-text.text.items c.as_slice.result.now c.in-Err.error
    c.misspelled.result c.as_slice.ensures.value c.misspelled.ensures c.in_ok-text.ensures.exact
    c.in-Err.ensures.exact

pub returns-then-len-gt-MAX_QUERIES : goal.returns-then-len-gt-MAX_QUERIES
returns-then-len-gt-MAX_QUERIES c =
    let len = length-map c.in-Ok.all.items query_seen in
    let many : 64 < length (map query_seen c.in-Ok.all.items) =
    omega (arith, len, c.len.ensures, c.if-len-gt-MAX_QUERIES.true, c.in-Ok.all.ok) in
    too_many_at c.args.body.now c.in_ok-text.text.items c.as_slice.result.now
    (map query_seen c.in-Ok.all.items) c.as_slice.ensures.value c.in_ok-text.ensures.exact
    c.in-Ok.ensures.exact many
