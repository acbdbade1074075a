use denote.Param.{param}
use denote.Param.Send.{IsSync, sendable}
use Rattle.std.proofs.Crossing as heap
use Rattle.std.proofs.lemmas.Result.{IfOk-weaker}
use Rattle.matchers.proofs.Crossing.{Query-sync}
use Rattle.head.proofs.Crossing.{Snapshot-sync}
use Rattle.block_search.specs.Places.{part_at}
use Rattle.block_search.specs.Answers.{IsAnswerOf}
use Rattle.block_search.proofs.Gathered.{all_found}
use Rattle.block_search.proofs.parts.search_by_workers.Given.{Over}
use Rattle.block_search.proofs.parts.search_by_workers.Goals as goal
use Rattle.block_search.proofs.parts.search_by_workers.Lts as lts

-- Threads may share what the closure captures. It stands by itself, since the search for it also
-- walks all that a goal knows.
closure-sync : (g : Over) (κs : _) → IsSync (param 1 g.row.G) → IsSync (param 0 g.row.R)
    → IsSync (param 3 (lts.arg-0-3 g.row.R g.row.G g.R.laws g.G.laws g.R.Threads-dict g.G.Gate-dict
    κs))
closure-sync g κs gate rt = search (sendable, heap.crosses, Query-sync, Snapshot-sync) depth 60 fits
    20000

pub map_indices-requires-sync-F : goal.map_indices-requires-sync-F
map_indices-requires-sync-F g c κs within = closure-sync g κs c.type_bounds.sync-G
    c.type_bounds.sync-R

pub returns : goal.returns
returns g c =
    let query = c.args.query.now in
    let snapshot = c.args.snapshot.now in
    all_found (λ place answer. IsAnswerOf query (part_at query snapshot place) answer)
    c.args.places.now c.map_indices.result c.map_indices.ensures.len
    (IfOk-weaker c.map_indices.result _ _ (λ v made i d lt. (made i d lt).1.met)
    c.map_indices.ensures.each)
