use Rattle.std.specs.Borrow.{Bor}
use Rattle.labels.specs.Rows.{Row}
use Rattle.metrics_writer.specs.Doubles.{IsRowOfDoubles}
use Rattle.metrics_writer.proofs.Joining.{appended_all, appended_next, appended_none, appended_of}
use Rattle.metrics_writer.proofs.double_rows.append_rows.Goals as goal

pub loop-row-init : goal.loop-row-init
loop-row-init c = appended_none (λ (row : Bor Row). IsRowOfDoubles row.now) c.args.out.now.items

pub loop-row-preserved : goal.loop-row-preserved
loop-row-preserved c =
    let l = c.loop-row in
    let one = c.in_ok-append_row.ensures in
    appended_next (λ (row : Bor Row). IsRowOfDoubles row.now) c.args.rows.now l.row-index _ _ _ _
    c.loop-row-test.true c.row-item.is l.invariant one.0 one.1 one.2

pub returns : goal.returns
returns c =
    let l = c.loop-row in
    appended_of IsRowOfDoubles (λ (row : Bor Row). row.now) c.args.rows.now _ _
    (appended_all (λ (row : Bor Row). IsRowOfDoubles row.now) c.args.rows.now l.row-index _ _
    c.loop-row-test.false l.invariant)
