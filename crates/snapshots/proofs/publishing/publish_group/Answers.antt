use Rattle.std.proofs.Common.{◌≡◌, ◌++◌, List, rules, refl, sym, subst}
use Rattle.std.specs.Arc.{arc_value}
use Rattle.head.specs.Worlds.{Event}
use Rattle.keeper.specs.Finding.{AreAllAndSome}
use Rattle.snapshots.specs.declared.entry.Entry.{Entry}
use Rattle.snapshots.specs.Keeping.{kept_of, SpellAll}
use Rattle.snapshots.specs.Marks.{accepted, list_of}
use Rattle.snapshots.specs.Replays.{events_in}
use Rattle.snapshots.proofs.Prefixes.{prefix_self}
use Rattle.snapshots.proofs.Published.{after_tail, kept_causes, kept_keeping, open_after, still_closed}
use Rattle.snapshots.proofs.Tips.{group_kept, group_parts, group_sealed, group_spelled, more_of}
use Rattle.snapshots.proofs.publishing.publish_group.Goals as goal

-- nothing was kept

pub returns-in-Err-clause-in_flight : goal.returns-in-Err-clause-in_flight
returns-in-Err-clause-in_flight g c more is opened =
    let group = c.args.group in
    let xs = accepted c.args.log.now in
    let bytes : c.deref.result.now ≡ group.records.items = search rules in
    c.keep.ensures.in_flight (kept_of g.J.Naming.before xs) (events_in more) c.requires.held
    (subst (λ (z : List _). SpellAll g.K.Keeper.idle (events_in more) z) (sym bytes)
    (group_spelled group.log xs c.requires.follows g.J.Naming.opening g.K.Keeper.idle (arc_value group.standing.snapshot)
    group.standing.counts.items group.records.items c.requires.group more is)) opened

pub returns-in-Err-clause-begins : goal.returns-in-Err-clause-begins
returns-in-Err-clause-begins g c = prefix_self (accepted c.args.log.now)

-- what is kept was asked for

pub keep-requires : goal.keep-requires
keep-requires g c =
    let group = c.args.group in
    let xs = accepted c.args.log.now in
    let bytes : c.deref.result.now ≡ group.records.items = search rules in
    let more = more_of group.log xs c.requires.follows in
    record {
      held = (
        kept_of g.J.Naming.before xs,
        events_in more,
        c.requires.held,
        subst (λ (z : List _). SpellAll g.K.Keeper.idle (events_in more) z) (sym bytes)
            (group_spelled group.log xs c.requires.follows g.J.Naming.opening g.K.Keeper.idle (arc_value group.standing.snapshot)
            group.standing.counts.items group.records.items c.requires.group more (group_parts group.log xs c.requires.follows)),
        subst g.K.Keeper.may (group_kept group.log xs c.requires.follows g.J.Naming.before (list_of group.log) refl) c.requires.may,
      );
    }

-- it was kept

pub publish_kept-requires-clause-held : goal.publish_kept-requires-clause-held
publish_kept-requires-clause-held g c =
    let group = c.args.group in
    let xs = accepted c.args.log.now in
    let bytes : c.deref.result.now ≡ group.records.items = search rules in
    let more = more_of group.log xs c.requires.follows in
    subst (λ (es : List Event). g.K.Keeper.holds c.keep.new.keeper es)
    (sym (group_kept group.log xs c.requires.follows g.J.Naming.before (list_of group.log) refl))
    (c.in-Ok.ensures.ok (kept_of g.J.Naming.before xs) (events_in more) c.requires.held
    (subst (λ (z : List _). SpellAll g.K.Keeper.idle (events_in more) z) (sym bytes)
    (group_spelled group.log xs c.requires.follows g.J.Naming.opening g.K.Keeper.idle (arc_value group.standing.snapshot)
    group.standing.counts.items group.records.items c.requires.group more (group_parts group.log xs c.requires.follows))))

pub publish_kept-requires-clause-last : goal.publish_kept-requires-clause-last
publish_kept-requires-clause-last g c more is =
    let group = c.args.group in
    let xs = accepted c.args.log.now in
    let bytes : c.deref.result.now ≡ group.records.items = search rules in
    c.in-Ok.ensures.last (kept_of g.J.Naming.before xs) (events_in more) c.requires.held
    (subst (λ (z : List _). SpellAll g.K.Keeper.idle (events_in more) z) (sym bytes)
    (group_spelled group.log xs c.requires.follows g.J.Naming.opening g.K.Keeper.idle (arc_value group.standing.snapshot)
    group.standing.counts.items group.records.items c.requires.group more is))

pub publish_kept-requires-clause-sealed : goal.publish_kept-requires-clause-sealed
publish_kept-requires-clause-sealed g c =
    let group = c.args.group in
    group_sealed g.J.Naming.opening g.K.Keeper.idle group.log (arc_value group.standing.snapshot)
    group.standing.counts.items group.records.items c.requires.group

pub returns-clause-in_flight : goal.returns-clause-in_flight
returns-clause-in_flight g c more is opened =
    let k = g.K.Keeper in
    let group = c.args.group in
    let xs = accepted c.args.log.now in
    let bytes : c.deref.result.now ≡ group.records.items = search rules in
    let events : List Event = kept_of g.J.Naming.before xs in
    after_tail k.moment k.left_since k.stands c.publish_kept.result.1 c.args.keeper.now c.keep.new.keeper c.publish_kept.new.keeper events (λ (xs : List Entry). list_of group.log ≡ accepted c.args.log.now ++ xs)
    c.publish_kept.ensures.rest c.publish_kept.ensures.in_flight more is
    (c.keep.ensures.in_flight events (events_in more) c.requires.held
    (subst (λ (z : List _). SpellAll k.idle (events_in more) z) (sym bytes)
    (group_spelled group.log xs c.requires.follows g.J.Naming.opening k.idle (arc_value group.standing.snapshot)
    group.standing.counts.items group.records.items c.requires.group more is)) opened)

pub returns-clause-closed : goal.returns-clause-closed
returns-clause-closed g c shut =
    still_closed g.K.Keeper.closed c.args.keeper.now c.keep.new.keeper c.publish_kept.new.keeper shut c.keep.ensures.closed c.in-Ok.ensures.open

pub returns-clause-open : goal.returns-clause-open
returns-clause-open g c = open_after g.K.Keeper.closed c.publish_kept.result.1 c.keep.new.keeper c.publish_kept.new.keeper c.publish_kept.ensures.rest c.in-Ok.ensures.open

pub returns-clause-refused : goal.returns-clause-refused
returns-clause-refused g c = kept_keeping c.publish_kept.result.1 c.publish_kept.ensures.refused

pub returns-clause-journal : goal.returns-clause-journal
returns-clause-journal g c = kept_causes _ c.publish_kept.result.1 c.publish_kept.ensures.refused

pub returns-clause-cause : goal.returns-clause-cause
returns-clause-cause g c = kept_causes _ c.publish_kept.result.1 c.publish_kept.ensures.refused
