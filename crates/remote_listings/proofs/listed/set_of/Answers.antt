use Rattle.std.specs.BTreeSet.{insert_key}
use Rattle.labels.specs.Labels.{labels_cmp}
use Rattle.remote_listings.specs.Listed.{found_in}
use Rattle.remote_listings.proofs.Folds.{list_turn}
use Rattle.remote_listings.proofs.listed.set_of.Goals as goal

pub loop-query-preserved : goal.loop-query-preserved
loop-query-preserved c =
    list_turn (insert_key labels_cmp) (found_in c.args.snapshot.now)
    c.args.queries.now c.loop-query.query-index c.query-item.result _ _ _
    c.loop-query-test.true c.query-item.is c.in_ok-add_parts.ensures
    c.loop-query.invariant
