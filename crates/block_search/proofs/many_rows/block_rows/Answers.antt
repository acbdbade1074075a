use denote.Param.{param, copied}
use denote.Param.Send.{IsSend, IsSync, sendable}
use Rattle.std.proofs.Crossing as heap
use Rattle.block.proofs.Crossing.{Block-sync}
use Rattle.matchers.proofs.Crossing.{Query-sync}
use Rattle.std.proofs.Common.{Option, ◌∙◌, ap}
use Rattle.rayon.proofs.ToStd.{slice-AllZip}
use Rattle.labels.specs.Rows.{Row}
use Rattle.cover.specs.declared.certificate.Interval.{Interval}
use Rattle.block_search.specs.Answering.{row_of_interval, IsFoundRow}
use Rattle.block_search.proofs.Collected.{collected}
use Rattle.block_search.proofs.many_rows.block_rows.Given.{Over}
use Rattle.block_search.proofs.many_rows.block_rows.Lts as lts
use Rattle.block_search.proofs.many_rows.block_rows.Goals as goal

-- Threads may share what the closure captures, and be given the chain. Each stands by itself, since
-- the search for it also walks all that a goal knows.
closure-send : (g : Over) (κs : _)
    → IsSend (copied 3 (lts.arg-2-3 g.row.R g.R.laws g.R.Threads-dict κs))
closure-send g κs = search (sendable, heap.crosses, Query-sync, Block-sync) depth 60 fits 20000

closure-sync : (g : Over) (κs : _)
    → IsSync (copied 3 (lts.arg-2-3 g.row.R g.R.laws g.R.Threads-dict κs))
closure-sync g κs = search (sendable, heap.crosses, Query-sync, Block-sync) depth 60 fits 20000

chain-send : (g : Over) (κs : _)
    → IsSend (param 0 (lts.arg-3-0 g.row.R g.R.laws g.R.Threads-dict κs))
chain-send g κs = search (sendable, heap.crosses, Query-sync, Block-sync) depth 60 fits 20000

pub filter_map-requires-send-F : goal.filter_map-requires-send-F
filter_map-requires-send-F g c κs within = closure-send g κs

pub filter_map-requires-sync-F : goal.filter_map-requires-sync-F
filter_map-requires-sync-F g c κs within = closure-sync g κs

pub collect-requires-send-Self : goal.collect-requires-send-Self
collect-requires-send-Self g c κs within = chain-send g κs

pub returns : goal.returns
returns g c =
    let query = c.args.query.now in
    let part = c.args.block.now.part in
    let certificate = c.args.certificate.now in
    let row : Interval → Option Row = row_of_interval query.from query.to part in
    let slice = ap (λ it. it.slice.now) (ap (λ it. it.base) c.filter_map.ensures.base
    ∙ c.with_min_len.ensures.base) ∙ c.par_iter.ensures in
    let given = c.in_ok-collect.ensures in
    let chain = rw c.filter_map.ensures.f at given.1 in
    collected row certificate c.in_ok-collect.field-0 chain.1
    (slice-AllZip chain.0 certificate (chain.2 ∙ slice) (IsFoundRow query.from query.to part) chain.1
    chain.3) given.0 chain.4 given.2
