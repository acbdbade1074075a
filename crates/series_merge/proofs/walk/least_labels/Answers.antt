use Rattle.std.proofs.Common.{take}
use Rattle.series_merge.proofs.Least.{least_more}
use Rattle.series_merge.proofs.walk.least_labels.Goals as goal

pub loop-part-preserved : goal.loop-part-preserved
loop-part-preserved c =
    least_more c.least_with-least.result c.args.parts.now c.loop-part.part-index c.part-item.result
    c.loop-part-test.true c.part-item.is
    (c.least_with-least.ensures (take c.loop-part.part-index c.args.parts.now) c.loop-part.invariant)
