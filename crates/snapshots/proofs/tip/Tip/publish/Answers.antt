use Rattle.std.proofs.Common.{◌≡◌, ◌∙◌, ap, inr, true, not, rules}
use Rattle.std.specs.Arc.{arc_value}
use Rattle.snapshots.specs.Marks.{accepted, list_of}
use Rattle.snapshots.specs.Views.{Ledger}
use Rattle.snapshots.proofs.Held.{held_as, held_by}
use Rattle.snapshots.proofs.Tips.{accepted_done, behind_kept, behind_while, done_begins, done_behind, done_current, done_stands, done_whole, listed, published_begins, stands_tried}
use Rattle.snapshots.proofs.tip.Tip.publish.Goals as goal

pub invariant_of-self-2 : goal.invariant_of-self-2
invariant_of-self-2 g c =
    let t = c.self.inside in
    let opening = g.J.Naming.opening in
    let idle = g.K.Keeper.idle in
    let group = c.args.group in
    let s = arc_value group.standing.snapshot in
    let m = group.standing.counts.items in
    let is : t.waits ≡ true = search rules in
    let stands = stands_tried opening t.waits t.log (arc_value t.ahead.snapshot) t.ahead.counts.items is c.self.invariant.0 in
    let behind = behind_kept opening idle t.waits t.log (arc_value t.base.snapshot) t.base.counts.items t.records.items is c.self.invariant.1 in (
      done_stands opening group.log t.log s m c.requires.sealed c.if-not-lists.ensures.lists
          c.add_done.new.self c.add_done.ensures c.is_settled.result (arc_value t.ahead.snapshot) t.ahead.counts.items c.is_settled.ensures.settled stands,
      behind_while (not c.is_settled.result)
          (done_behind opening group.log t.log s m c.requires.sealed c.if-not-lists.ensures.lists
          c.add_done.new.self c.add_done.ensures idle (arc_value t.base.snapshot) t.base.counts.items t.records.items behind),
      c.self.invariant.2,
      search rules,
      held_as g.K.Keeper.holds g.K.Keeper.stays g.J.Naming.before (list_of group.log) _
          (ap accepted c.share.ensures.same
          ∙ accepted_done opening group.log t.log s m c.requires.sealed c.if-not-lists.ensures.lists
          c.add_done.new.self c.add_done.ensures)
          (held_by g.K.Keeper.holds g.K.Keeper.stays g.J.Naming.before c.args.keeper.now c.settle.result
          (list_of group.log) c.requires.held (c.requires.settles c.settle.result c.settle.ensures)),
    )

pub returns-clause-tried : goal.returns-clause-tried
returns-clause-tried g c =
    let t = c.self.inside in
    let group = c.args.group in
    let is : t.waits ≡ true = search rules in
    done_current g.J.Naming.opening group.log t.log (arc_value group.standing.snapshot) group.standing.counts.items
    c.requires.sealed c.if-not-lists.ensures.lists c.add_done.new.self c.add_done.ensures c.is_settled.result t.waits c.is_settled.ensures.settled is
    ∙ ap (λ (l : Ledger). l.entries) c.self.view_is

pub add_done-requires-clause-held : goal.add_done-requires-clause-held
add_done-requires-clause-held g c =
    let t = c.self.inside in
    let group = c.args.group in
    held_as g.K.Keeper.holds g.K.Keeper.stays g.J.Naming.before (list_of group.log) (list_of t.log)
    (listed g.J.Naming.opening group.log t.log (arc_value group.standing.snapshot) group.standing.counts.items
    c.requires.sealed c.if-not-lists.ensures.lists)
    (held_by g.K.Keeper.holds g.K.Keeper.stays g.J.Naming.before c.args.keeper.now c.settle.result
    (list_of group.log) c.requires.held (c.requires.settles c.settle.result c.settle.ensures))

pub returns-then-not-self-clause-ordered : goal.returns-then-not-self-clause-ordered
returns-then-not-self-clause-ordered g c = published_begins c.self.inside.waits c.self.inside.log

pub returns-then-not-has_room-clause-ordered : goal.returns-then-not-has_room-clause-ordered
returns-then-not-has_room-clause-ordered g c = published_begins c.self.inside.waits c.self.inside.log

pub returns-then-not-lists-clause-ordered : goal.returns-then-not-lists-clause-ordered
returns-then-not-lists-clause-ordered g c = published_begins c.self.inside.waits c.self.inside.log

pub returns-clause-ordered : goal.returns-clause-ordered
returns-clause-ordered g c = published_begins (not c.is_settled.result) c.add_done.new.self

pub show-requires-clause-whole : goal.show-requires-clause-whole
show-requires-clause-whole g c =
    let t = c.self.inside in
    let group = c.args.group in
    rw c.share.ensures.same (done_whole g.J.Naming.opening group.log t.log (arc_value group.standing.snapshot)
    group.standing.counts.items c.requires.sealed c.if-not-lists.ensures.lists c.add_done.new.self c.add_done.ensures)

pub show-requires-clause-begins : goal.show-requires-clause-begins
show-requires-clause-begins g c =
    let t = c.self.inside in
    let group = c.args.group in
    rw c.share.ensures.same (done_begins g.J.Naming.opening group.log t.log (arc_value group.standing.snapshot)
    group.standing.counts.items c.requires.sealed c.if-not-lists.ensures.lists c.add_done.new.self c.add_done.ensures _ c.requires.shown.1)

pub show-requires-clause-after : goal.show-requires-clause-after
show-requires-clause-after g c =
    let t = c.self.inside in
    let group = c.args.group in
    let done = accepted_done g.J.Naming.opening group.log t.log (arc_value group.standing.snapshot)
    group.standing.counts.items c.requires.sealed c.if-not-lists.ensures.lists c.add_done.new.self c.add_done.ensures in
    rw (c.share.ensures.same, done, c.requires.alike) c.requires.sealed.stands.after

pub show-requires-clause-kept : goal.show-requires-clause-kept
show-requires-clause-kept g c =
    let t = c.self.inside in
    let group = c.args.group in
    let done = accepted_done g.J.Naming.opening group.log t.log (arc_value group.standing.snapshot)
    group.standing.counts.items c.requires.sealed c.if-not-lists.ensures.lists c.add_done.new.self c.add_done.ensures in
    rw (c.share.ensures.same, done) (c.requires.rule c.args.keeper.now (list_of group.log) c.requires.held
    (inr (c.settle.result, c.requires.settles c.settle.result c.settle.ensures)))
