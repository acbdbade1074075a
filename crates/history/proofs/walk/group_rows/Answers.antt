use Rattle.std.proofs.Common.{List, sym, subst}
use Rattle.labels.specs.Rows.{Row}
use Rattle.history.proofs.Pushes.{AreRowsBefore, pushed_step}
use Rattle.history.proofs.walk.group_rows.Goals as goal

pub loop-entry-preserved : goal.loop-entry-preserved
loop-entry-preserved c =
    subst (λ (rows : List Row). AreRowsBefore rows c.pop_first.new.self.entries
    c.args.content.entries) (sym c.in_ok-push_entry.ensures)
    (pushed_step c.loop-entry.rows.items c.loop-entry.content.entries c.pop_first.new.self.entries
    c.args.content.entries c.in-Some.entry.0 c.in-Some.entry.1
    c.requires c.in-Some.ensures.removal c.loop-entry.invariant)
