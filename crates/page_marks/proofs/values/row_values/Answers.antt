use Rattle.std.proofs.Common.{ℤ, List, subst}
use Rattle.page_marks.specs.Values.{AreRowValues}
use Rattle.page_marks.proofs.Shown.{continues_next, continues_all}
use Rattle.page_marks.proofs.values.row_values.Goals as goal

pub loop-row-preserved : goal.loop-row-preserved
loop-row-preserved c =
    let one = c.in_ok-append_row.ensures in
    continues_next c.args.values c.args.rows.now c.loop-row.row-index c.row-item.result
    c.loop-row.shown.items one.0 c.append_row.new.shown.items c.loop-row-test.true c.row-item.is
    one.1
    (subst (λ (ss : List (ℤ × ℤ)). AreRowValues c.args.values ss one.0) c.samples.ensures one.2)
    c.loop-row.invariant

pub returns : goal.returns
returns c =
    continues_all c.args.values c.args.rows.now c.loop-row.row-index c.loop-row.shown.items
    c.loop-row-test.false c.loop-row.invariant
