use Rattle.std.proofs.Common.{◌++◌, ◌∙◌, ap, List, ℕ}
use Rattle.metrics_writer.specs.Series.{row_text}
use Rattle.metrics_writer.proofs.Grouping.{group_text}
use Rattle.metrics_writer.proofs.Loops.{done, each_done}
use Rattle.metrics_writer.proofs.rows.append_group.Goals as goal

pub returns : goal.returns
returns c =
    let l = c.loop-row in
    let out = c.args.out.now.items in
    let group = c.args.group.now in
    let none =
    each_done (λ row. row_text c.args.places row.now) group l.row-index c.loop-row-test.false in
    done l.out.items _ _ none l.invariant
    ∙ ap (λ (t : List ℕ). out ++ t) (group_text c.args.places group)
