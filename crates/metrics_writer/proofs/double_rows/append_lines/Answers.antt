use Rattle.metrics_writer.specs.Doubles.{IsDoubleLine}
use Rattle.metrics_writer.proofs.Joining.{appended_all, appended_next, appended_none}
use Rattle.metrics_writer.proofs.double_rows.append_lines.Goals as goal

pub loop-sample-init : goal.loop-sample-init
loop-sample-init c = appended_none (IsDoubleLine c.args.series.now) c.args.out.now.items

pub loop-sample-preserved : goal.loop-sample-preserved
loop-sample-preserved c =
    let l = c.loop-sample in
    let one = c.in_ok-append_line.ensures in
    appended_next (IsDoubleLine c.args.series.now) c.args.samples.now l.sample-index _ _ _ _
    c.loop-sample-test.true c.sample-item.is l.invariant one.0 one.1 one.2

pub returns : goal.returns
returns c =
    let l = c.loop-sample in
    appended_all (IsDoubleLine c.args.series.now) c.args.samples.now l.sample-index _ _
    c.loop-sample-test.false l.invariant
