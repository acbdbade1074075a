use Rattle.std.proofs.Common.{ap, sym, ◌∙◌}
use Rattle.std.specs.Arc.{arc_value}
use Rattle.snapshots.specs.Marks.{accepted}
use Rattle.snapshots.specs.Standings.{current}
use Rattle.snapshots.proofs.Accepts.{accepted_void}
use Rattle.snapshots.proofs.Tips.{none_behind, same_ledger, stands_as, void_current}
use Rattle.snapshots.proofs.tip.Tip.leave.Goals as goal

pub invariant_of-self-2 : goal.invariant_of-self-2
invariant_of-self-2 g c =
    let t = c.self.inside in
    let same = void_current t.waits t.log c.add_void.new.self c.if-self.false c.add_void.ensures in (
      stands_as g.J.Naming.opening (current t.waits t.log) (current t.waits c.add_void.new.self) (arc_value t.ahead.snapshot) t.ahead.counts.items
          (sym same) c.self.invariant.0,
      none_behind t.waits _ c.if-self.false,
      c.self.invariant.2,
      c.self.invariant.3 ∙ sym (ap accepted c.add_void.ensures ∙ accepted_void t.log),
      c.self.invariant.4,
    )

pub returns : goal.returns
returns g c =
    let t = c.self.inside in
    same_ledger (accepted c.add_void.new.self) (accepted t.log) (current t.waits c.add_void.new.self) (current t.waits t.log) t.ahead.counts.items (arc_value t.ahead.snapshot)
    (ap accepted c.add_void.ensures ∙ accepted_void t.log)
    (void_current t.waits t.log c.add_void.new.self c.if-self.false c.add_void.ensures)
    ∙ c.self.view_is
