use Rattle.std.specs.BTreeSet.{insert_key}
use Rattle.labels.specs.Labels.{labels_cmp}
use Rattle.remote_listings.specs.Finding.{labels_of_interval}
use Rattle.remote_listings.proofs.Folds.{option_turn}
use Rattle.remote_listings.proofs.listed.add_matches.Goals as goal

pub loop-interval-preserved : goal.loop-interval-preserved
loop-interval-preserved g c =
    option_turn (insert_key labels_cmp) (labels_of_interval (g.S.Source.part c.args.source.now))
    c.args.certificate.now c.loop-interval.interval-index c.interval-item.result _ _ _
    c.loop-interval-test.true c.interval-item.is c.in_ok-add_match.ensures
    c.loop-interval.invariant
