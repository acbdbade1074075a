use Rattle.std.proofs.Common.{◌≡◌, ◌∙◌, true, [], ap, sym, rules}
use Rattle.std.specs.Arc.{arc_value}
use Rattle.snapshots.specs.Marks.{accepted, tried_of}
use Rattle.snapshots.proofs.Accepts.{accepted_seal}
use Rattle.snapshots.specs.Standings.{current}
use Rattle.snapshots.proofs.Tips.{behind_kept, behind_while, current_waits, group_as, same_ledger, sealed_behind, sealed_current, sealed_group, sealed_stands, stands_as, stands_tried}
use Rattle.snapshots.proofs.tip.Tip.seal.Goals as goal

pub invariant_of-self : goal.invariant_of-self
invariant_of-self g c =
    let t = c.self.inside in
    let opening = g.J.Naming.opening in
    let s = arc_value t.ahead.snapshot in
    let is : t.waits ≡ true = search rules in
    let none : c.replace-records.new.dest.items ≡ [] = search rules in
    let stands = stands_tried opening t.waits t.log s t.ahead.counts.items is c.self.invariant.0 in
    let behind = behind_kept opening g.K.Keeper.idle t.waits t.log (arc_value t.base.snapshot) t.base.counts.items t.records.items is c.self.invariant.1 in (
      stands_as opening (tried_of c.add_seal.new.self) (current t.waits c.add_seal.new.self) s t.ahead.counts.items
          (sym (current_waits t.waits c.add_seal.new.self is))
          (sealed_stands opening t.log c.add_seal.new.self s t.ahead.counts.items c.add_seal.ensures stands),
      behind_while t.waits
          (sealed_behind opening g.K.Keeper.idle t.log c.add_seal.new.self (arc_value t.base.snapshot) t.base.counts.items
          c.replace-records.new.dest.items c.add_seal.ensures behind.stands none),
      c.self.invariant.2,
      c.self.invariant.3 ∙ sym (ap accepted c.add_seal.ensures ∙ accepted_seal t.log),
      c.self.invariant.4,
    )

pub returns-clause-group : goal.returns-clause-group
returns-clause-group g c =
    let t = c.self.inside in
    let opening = g.J.Naming.opening in
    let s = arc_value t.ahead.snapshot in
    let is : t.waits ≡ true = search rules in
    let records : c.replace-records.result.items ≡ t.records.items = search rules in
    let stands = stands_tried opening t.waits t.log s t.ahead.counts.items is c.self.invariant.0 in
    let behind = behind_kept opening g.K.Keeper.idle t.waits t.log (arc_value t.base.snapshot) t.base.counts.items t.records.items is c.self.invariant.1 in
    group_as opening g.K.Keeper.idle c.add_seal.new.self c.share-2.result s (arc_value c.in-Ok.standing.snapshot)
    t.ahead.counts.items c.in-Ok.standing.counts.items t.records.items c.replace-records.result.items
    c.share-2.ensures.same c.in-Ok.ensures.snapshot c.in-Ok.ensures.counts records
    (sealed_group opening g.K.Keeper.idle t.log c.add_seal.new.self s (arc_value t.base.snapshot) t.ahead.counts.items t.base.counts.items t.records.items
    c.add_seal.ensures c.if-not-is_unsealed.ensures.unsealed stands behind)

pub returns-clause-same : goal.returns-clause-same
returns-clause-same g c =
    let t = c.self.inside in
    same_ledger (accepted c.add_seal.new.self) (accepted t.log) (current t.waits c.add_seal.new.self) (current t.waits t.log) t.ahead.counts.items (arc_value t.ahead.snapshot)
    (ap accepted c.add_seal.ensures ∙ accepted_seal t.log)
    (sealed_current t.waits t.log c.add_seal.new.self c.add_seal.ensures)
    ∙ c.self.view_is
