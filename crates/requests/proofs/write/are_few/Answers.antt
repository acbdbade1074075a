use Rattle.std.proofs.Common.{◌≡◌, ◌<◌, ◌≤◌, ◌+◌, [], List, length, drop, ap, ◌∙◌, arith}
use Rattle.std.proofs.lemmas.List.{drop_all}
use Rattle.labels.specs.Rows.{Row}
use Rattle.requests.specs.Rows.{batch_of}
use Rattle.requests.proofs.RowTexts.{left_turn}
use Rattle.requests.proofs.write.are_few.Goals as goal

pub returns-then-count-room : goal.returns-then-count-room
returns-then-count-room c =
    let left = left_turn c.args.rows.now c.loop-row.row-index c.row-item.result
    c.samples-count.result.now c.loop-row-test.true c.row-item.is c.samples-count.ensures in
    let over : 4096 < length (batch_of c.args.rows.now) =
    omega (arith, left, c.loop-row.invariant) in
    over

pub loop-row-preserved : goal.loop-row-preserved
loop-row-preserved c =
    let left = left_turn c.args.rows.now c.loop-row.row-index c.row-item.result
    c.samples-count.result.now c.loop-row-test.true c.row-item.is c.samples-count.ensures in
    omega (arith, left, c.loop-row.invariant)

pub returns : goal.returns
returns c =
    let none : drop c.loop-row.row-index c.args.rows.now ≡ [] =
    drop_all c.loop-row.row-index c.args.rows.now c.loop-row-test.false in
    let all : c.loop-row.room + length (batch_of c.args.rows.now) ≡ 4096 =
    c.loop-row.invariant ∙ ap (λ (rows : List Row). 4096 + length (batch_of rows)) none in
    let few : length (batch_of c.args.rows.now) ≤ 4096 = omega (arith, all) in
    few
