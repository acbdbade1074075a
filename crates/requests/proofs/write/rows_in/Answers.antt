use Rattle.requests.proofs.RowTexts.{rows_turn}
use Rattle.requests.proofs.write.rows_in.Goals as goal

pub loop-item-preserved : goal.loop-item-preserved
loop-item-preserved c =
    let one = rw c.in-Some.is at c.in_ok-row.ensures in
    let so_far = c.loop-item.invariant in
    rows_turn c.args.items.now c.loop-item.item-index c.item-item.result so_far.0
    c.loop-item.rows.items _ one.0 _
    c.loop-item-test.true c.item-item.is so_far.1 so_far.2 one.1 one.2 c.in_ok-push.ensures.items
