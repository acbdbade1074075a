use Rattle.std.proofs.Common.{◌≡◌, true, sym, ap, ◌∙◌, arith, drop}
use Rattle.metrics_writer.proofs.Grouping.{ascend_from, names_up}
use Rattle.metrics_writer.proofs.Loops.{gone}
use Rattle.metrics_writer.proofs.groups.names_ascend.Goals as goal

pub returns : goal.returns
returns c =
    let l = c.loop-row in
    let rows = c.args.rows.now in
    let ended : ascend_from l.last.now (drop l.row-index rows) ≡ true =
    ap (ascend_from l.last.now) (gone rows l.row-index (omega arith)) in
    names_up rows (sym l.invariant ∙ ended)
