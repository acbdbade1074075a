use Rattle.std.proofs.Common.{◌≡◌, rules, ap, subst, sym, ◌∙◌}
use Rattle.std.specs.Arc.{arc_value}
use mathlib.Core.List.{IsPrefix}
use Rattle.head.specs.Heads.{world_of}
use Rattle.keeper.proofs.Finds.{resting}
use Rattle.snapshots.specs.Asking.{AreAsked}
use Rattle.snapshots.specs.Keeping.{kept_of, AreKeptBetween, IsOfAllKept}
use Rattle.snapshots.specs.Views.{Published}
use Rattle.snapshots.specs.Marks.{accepted, list_of}
use Rattle.snapshots.proofs.Asked.{shows_asked}
use Rattle.snapshots.proofs.Between.{all_between, finds_between, group_between}
use Rattle.snapshots.proofs.Keeps.{of_all_kept}
use Rattle.snapshots.proofs.Prefixes.{prefix_self}
use Rattle.snapshots.proofs.Tips.{group_parts, more_of}
use Rattle.snapshots.proofs.book.Book.publish.Goals as goal

-- the group does not follow

pub returns-then-not-accepts_as-clause-durable : goal.returns-then-not-accepts_as-clause-durable
returns-then-not-accepts_as-clause-durable g c =
    subst (λ (p : Published _). IsOfAllKept g.K.Keeper.idle g.K.Keeper.first g.J.Naming.before p.entries p.parts) c.self.view_is
    (of_all_kept g.K.Keeper.idle g.K.Keeper.first g.J.Naming.before g.J.Naming.opening
    (accepted c.self.inside.log) c.self.inside.press.desk.shown.value.version.parts c.self.invariant.2
    c.self.invariant.0.2)

pub returns-then-not-accepts_as-clause-asked : goal.returns-then-not-accepts_as-clause-asked
returns-then-not-accepts_as-clause-asked g c =
    subst (λ (p : Published _). AreAsked g.J.Naming.asked p.entries) c.self.view_is
    (shows_asked g.J.Naming.asked g.J.Naming.book g.J.Naming.opening g.J.Naming.kept
    c.self.inside.press.desk.shown.value.version (accepted c.self.inside.log) c.self.invariant.0)

pub returns-then-not-accepts_as-clause-begins : goal.returns-then-not-accepts_as-clause-begins
returns-then-not-accepts_as-clause-begins g c = prefix_self c.args.self.now.entries

pub returns-then-not-accepts_as-clause-held : goal.returns-then-not-accepts_as-clause-held
returns-then-not-accepts_as-clause-held g c =
    subst (λ (p : Published _). g.K.Keeper.holds p.keeper (kept_of g.J.Naming.before p.entries)) c.self.view_is c.self.invariant.1

pub returns-then-not-accepts_as-clause-in_flight : goal.returns-then-not-accepts_as-clause-in_flight
returns-then-not-accepts_as-clause-in_flight g c opened =
    let k = g.K.Keeper in
    let old = c.args.self.now in
    resting k.moment k.left_since k.stands old.keeper (AreKeptBetween g.J.Naming.before old.entries (list_of c.args.group.log))
    (λ left had. all_between k.stands g.J.Naming.before old.entries (list_of c.args.group.log) left
    (g.met.K.Keeper.settled old.keeper (kept_of g.J.Naming.before old.entries) left (returns-then-not-accepts_as-clause-held g c) opened had))

pub returns-then-not-accepts_as-clause-finds : goal.returns-then-not-accepts_as-clause-finds
returns-then-not-accepts_as-clause-finds g c opened keeps left had =
    let k = g.K.Keeper in
    let old = c.args.self.now in
    let group = c.args.group in
    let parts = arc_value group.standing.snapshot in
    finds_between k.stands k.makes k.first g.met.K.Keeper.finds g.J.Naming.before old.entries (list_of group.log) (world_of old.parts) (world_of parts)
    (returns-then-not-accepts_as-clause-durable g c keeps)
    (of_all_kept k.idle k.first g.J.Naming.before g.J.Naming.opening (list_of group.log) parts c.self.invariant.2 c.requires.group.stands.after keeps)
    left ((returns-then-not-accepts_as-clause-in_flight g c opened).each left had)

-- it follows

pub returns-clause-asked : goal.returns-clause-asked
returns-clause-asked g c =
    shows_asked g.J.Naming.asked g.J.Naming.book g.J.Naming.opening g.J.Naming.kept
    c.publish_group.new.press.desk.shown.value.version (accepted c.publish_group.new.log) c.publish_group.ensures.shown

pub returns-clause-durable : goal.returns-clause-durable
returns-clause-durable g c =
    of_all_kept g.K.Keeper.idle g.K.Keeper.first g.J.Naming.before g.J.Naming.opening
    (accepted c.publish_group.new.log) c.publish_group.new.press.desk.shown.value.version.parts c.self.invariant.2
    c.publish_group.ensures.shown.2

pub returns-clause-begins : goal.returns-clause-begins
returns-clause-begins g c =
    subst (λ (p : Published _). IsPrefix p.entries (accepted c.publish_group.new.log)) c.self.view_is
    c.publish_group.ensures.begins

pub returns-clause-in_flight : goal.returns-clause-in_flight
returns-clause-in_flight g c opened =
    let k = g.K.Keeper in
    let group = c.args.group in
    let follows : accepted group.log ≡ accepted c.self.inside.log = search rules in
    let more = more_of group.log (accepted c.self.inside.log) follows in
    let is = group_parts group.log (accepted c.self.inside.log) follows in
    group_between k.moment k.left_since k.stands g.J.Naming.before _ c.args.self.now c.publish_group.new.keeper (list_of group.log)
    more c.self.view_is is
    (c.publish_group.ensures.in_flight more is (ap (λ (p : Published _). k.closed p.keeper) c.self.view_is ∙ opened))

pub returns-clause-finds : goal.returns-clause-finds
returns-clause-finds g c opened keeps left had =
    let k = g.K.Keeper in
    let old = c.args.self.now in
    let group = c.args.group in
    let parts = arc_value group.standing.snapshot in
    let was = subst (λ (p : Published _). IsOfAllKept k.idle k.first g.J.Naming.before p.entries p.parts) c.self.view_is
    (of_all_kept k.idle k.first g.J.Naming.before g.J.Naming.opening (accepted c.self.inside.log) c.self.inside.press.desk.shown.value.version.parts
    c.self.invariant.2 c.self.invariant.0.2) in
    finds_between k.stands k.makes k.first g.met.K.Keeper.finds g.J.Naming.before old.entries (list_of group.log) (world_of old.parts) (world_of parts)
    (was keeps)
    (of_all_kept k.idle k.first g.J.Naming.before g.J.Naming.opening (list_of group.log) parts c.self.invariant.2 c.requires.group.stands.after keeps)
    left ((returns-clause-in_flight g c opened).each left had)

-- what is kept was asked for

pub publish_group-requires-clause-may : goal.publish_group-requires-clause-may
publish_group-requires-clause-may g c =
    let group = c.args.group in
    c.self.invariant.3 (list_of group.log) (arc_value group.standing.snapshot)
    (subst (AreAsked g.J.Naming.asked) (sym c.requires.group.whole) c.accepts_as.ensures.asked)
    c.requires.group.stands.after
