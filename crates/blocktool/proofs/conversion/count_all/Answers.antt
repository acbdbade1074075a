use Rattle.std.proofs.Common.{ap, arith}
use Rattle.block_outputs.specs.Writing.{samples_in}
use Rattle.blocktool.proofs.Given.{samples_in_all-take}
use Rattle.blocktool.proofs.conversion.count_all.Goals as goal

pub loop-rows-preserved : goal.loop-rows-preserved
loop-rows-preserved c =
    let l = c.loop-rows in
    let next =
    samples_in_all-take c.args.lists.now l.rows-index c.rows-item.result c.loop-rows-test.true
    c.rows-item.is in
    let own = ap samples_in c.as_slice.ensures.value in
    omega (arith, next, own, c.count_samples.ensures, c.saturating_add-count.ensures, l.invariant)
