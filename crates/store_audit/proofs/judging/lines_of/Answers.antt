use Rattle.std.proofs.Common.{List, subst}
use Rattle.labels.specs.Parts.{Part}
use Rattle.whole_audit.specs.StateLines.{AreStateLines}
use Rattle.store_audit.proofs.judging.lines_of.Goals as goal

pub returns : goal.returns
returns c =
    let world = c.args.world.now in
    let query = c.args.query.now in
    let reply = c.args.reply in
    let lines = c.in_ok-state_lines.field-0.items in
    subst (λ (h : Part). AreStateLines world.blocks h query reply lines) c.in_ok-head.ensures
    (subst (λ (bs : List Part). AreStateLines bs c.in_ok-head.head query reply lines)
    c.blocks-2.ensures c.in_ok-state_lines.ensures)
