use Rattle.std.proofs.Common.{ap, length, arith}
use Rattle.block_outputs.proofs.Counted.{samples_in-take}
use Rattle.block_outputs.proofs.output.count_samples.Goals as goal

pub loop-row-preserved : goal.loop-row-preserved
loop-row-preserved c =
    let l = c.loop-row in
    let next = samples_in-take c.args.rows.now l.row-index c.row-item.result c.loop-row-test.true
    c.row-item.is in
    let count = ap length c.samples.ensures in
    omega (arith, next, count, c.saturating_add-count.ensures, l.invariant)
