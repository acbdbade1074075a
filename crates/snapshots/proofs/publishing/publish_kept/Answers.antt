use Rattle.std.proofs.Common.{List, refl, sym, subst, ◌∙◌}
use Rattle.head.specs.Worlds.{Event}
use Rattle.keeper.specs.Finding.{AreAllAndSome}
use Rattle.keeper.proofs.Finds.{wider}
use Rattle.snapshots.specs.declared.entry.Entry.{Entry}
use Rattle.snapshots.specs.Keeping.{kept_of}
use Rattle.snapshots.specs.Marks.{accepted, list_of}
use Rattle.snapshots.specs.Replays.{events_in}
use Rattle.snapshots.proofs.Keeps.{at_most, stays_all}
use Rattle.snapshots.proofs.Prefixes.{prefix_self}
use Rattle.snapshots.proofs.Tips.{group_kept, group_parts, more_of}
use Rattle.snapshots.proofs.publishing.publish_kept.Goals as goal

-- it is published

pub publish-requires-clause-settles : goal.publish-requires-clause-settles
publish-requires-clause-settles g c token settled =
    let k = g.K.Keeper in
    let group = c.args.group.log in
    let xs = accepted c.args.log.now in
    let events : List Event = kept_of g.J.Naming.before xs in
    let more = more_of group xs c.requires.follows in
    let last = c.requires.last more (group_parts group xs c.requires.follows) in
    subst (λ (es : List Event). k.stays token es)
    (sym (group_kept group xs c.requires.follows g.J.Naming.before (list_of group) refl))
    (stays_all k.idle k.stays token events (events_in more) last.0 k.any_stays last.1
    (settled events last.0 last.2))

pub returns-in-Ok-clause-held : goal.returns-in-Ok-clause-held
returns-in-Ok-clause-held g c =
    subst (λ (es : List Entry). g.K.Keeper.holds c.args.keeper.now (kept_of g.J.Naming.before es))
    (sym c.in-Ok.ensures.list) c.requires.held

pub returns-in-Ok-clause-begins : goal.returns-in-Ok-clause-begins
returns-in-Ok-clause-begins g c =
    let group = c.args.group.log in
    let xs = accepted c.args.log.now in (
      more_of group xs c.requires.follows,
      sym (group_parts group xs c.requires.follows) ∙ sym c.in-Ok.ensures.list,
    )

-- or it is taken back

pub close-requires-clause-last : goal.close-requires-clause-last
close-requires-clause-last g c =
    let group = c.args.group.log in
    let xs = accepted c.args.log.now in
    let events : List Event = kept_of g.J.Naming.before xs in
    let last = c.requires.last (more_of group xs c.requires.follows) (group_parts group xs c.requires.follows) in (
      events,
      last.0,
      subst (λ (right : _). g.K.Keeper.kept_last c.args.keeper.now right events last.0) (sym c.in-Err.ensures.back) last.2,
    )

pub returns-in-Err-clause-held : goal.returns-in-Err-clause-held
returns-in-Err-clause-held g c =
    let group = c.args.group.log in
    let xs = accepted c.args.log.now in
    let events : List Event = kept_of g.J.Naming.before xs in
    let last = c.requires.last (more_of group xs c.requires.follows) (group_parts group xs c.requires.follows) in
    c.close.ensures.held events last.0
    (subst (λ (right : _). g.K.Keeper.kept_last c.args.keeper.now right events last.0) (sym c.in-Err.ensures.back) last.2)

pub returns-in-Err-clause-begins : goal.returns-in-Err-clause-begins
returns-in-Err-clause-begins g c = prefix_self (accepted c.args.log.now)

pub returns-in-Err-clause-in_flight : goal.returns-in-Err-clause-in_flight
returns-in-Err-clause-in_flight g c more is =
    let k = g.K.Keeper in
    let events : List Event = kept_of g.J.Naming.before (accepted c.args.log.now) in
    let last = c.requires.last more is in
    wider k.moment k.left_since k.stands c.args.keeper.now c.close.new.self (AreAllAndSome events last.0) (AreAllAndSome events (events_in more))
    (λ found some. at_most k.idle events (events_in more) last.0 found last.1 some)
    (c.close.ensures.any_moment events last.0
    (subst (λ (right : _). k.kept_last c.args.keeper.now right events last.0) (sym c.in-Err.ensures.back) last.2))
