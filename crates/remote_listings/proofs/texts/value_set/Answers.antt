use Rattle.remote_listings.specs.Listed.{values_in}
use Rattle.remote_listings.proofs.TextSets.{texts_turn}
use Rattle.remote_listings.proofs.texts.value_set.Goals as goal

pub loop-labels-preserved : goal.loop-labels-preserved
loop-labels-preserved c =
    texts_turn (values_in c.args.name.now) c.args.sets.now c.loop-labels.labels-index c.labels-item.result _ _ _ _
    c.loop-labels-test.true c.labels-item.is c.in_ok-add_value.ensures
    c.loop-labels.invariant
