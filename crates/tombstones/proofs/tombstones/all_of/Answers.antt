use Rattle.std.proofs.Common.{◌∙◌}
use Rattle.tombstones.proofs.Joins.{joined_next}
use Rattle.tombstones.proofs.tombstones.all_of.Goals as goal

pub loop-at-preserved : goal.loop-at-preserved
loop-at-preserved c =
    let l = c.loop-at in
    c.in_ok-push.ensures.items
    ∙ joined_next c.args.deletions.now l.all.items c.args.references.now _ _ l.at
    c.index-references-at.result c.interval_of.result c.loop-at-test.true c.index-references-at.is
    c.interval_of.ensures l.invariant
