use Rattle.exposition.proofs.Orders.{put_more}
use Rattle.exposition.proofs.rows.put_samples.Goals as goal

pub loop-sample-preserved : goal.loop-sample-preserved
loop-sample-preserved c =
    let l = c.loop-sample in
    put_more c.args.labels.now c.args.samples.now l.sample-index c.sample-item.result
    c.args.runs.now l.runs c.put.new.self c.loop-sample-test.true
    c.sample-item.is l.invariant c.in_ok-put.ensures
