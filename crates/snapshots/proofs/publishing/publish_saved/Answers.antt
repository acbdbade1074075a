use Rattle.std.proofs.Common.{◌≡◌, ◌++◌, ◌∙◌, List, inl, refl, sym, subst}
use Rattle.std.specs.Arc.{arc_value}
use Rattle.head.specs.Worlds.{Event}
use Rattle.snapshots.specs.declared.entry.Entry.{Entry}
use Rattle.snapshots.specs.Keeping.{kept_of, IsOfKeeping}
use Rattle.snapshots.specs.Marks.{accepted, list_of}
use Rattle.snapshots.specs.Replays.{events_in}
use Rattle.snapshots.proofs.Keeps.{of_keeping}
use Rattle.snapshots.proofs.Prefixes.{prefix_self}
use Rattle.snapshots.proofs.Published.{after_tail, kept_causes, kept_keeping, open_after, saved_all, still_closed}
use Rattle.snapshots.proofs.Tips.{group_kept, group_parts, more_of}
use Rattle.snapshots.proofs.publishing.publish_saved.Goals as goal

-- what is saved is what all make, and they were asked for

pub save-requires : goal.save-requires
save-requires g c =
    let group = c.args.group in
    let xs = accepted c.args.log.now in
    let more = more_of group.log xs c.requires.follows in
    record {
      made = λ keeps. (
        kept_of g.J.Naming.before xs,
        events_in more,
        c.requires.held,
        subst g.K.Keeper.may (group_kept group.log xs c.requires.follows g.J.Naming.before (list_of group.log) refl) c.requires.may,
        saved_all g.K.Keeper.idle g.K.Keeper.first g.J.Naming.before g.J.Naming.opening group.log xs more
            (arc_value group.standing.snapshot) c.deref.result.now group.standing.counts.items c.requires.world c.requires.sealed
            (c.deref.ensures ∙ c.requires.alike) (group_parts group.log xs c.requires.follows) keeps,
      );
    }

-- nothing was kept

pub returns-in-Err-clause-held : goal.returns-in-Err-clause-held
returns-in-Err-clause-held g c =
    let group = c.args.group in
    let xs = accepted c.args.log.now in
    let more = more_of group.log xs c.requires.follows in
    c.in-Err.ensures.err (kept_of g.J.Naming.before xs) (events_in more) c.requires.held
    (λ keeps. saved_all g.K.Keeper.idle g.K.Keeper.first g.J.Naming.before g.J.Naming.opening group.log xs more
    (arc_value group.standing.snapshot) c.deref.result.now group.standing.counts.items c.requires.world c.requires.sealed
    (c.deref.ensures ∙ c.requires.alike) (group_parts group.log xs c.requires.follows) keeps)

pub returns-in-Err-clause-in_flight : goal.returns-in-Err-clause-in_flight
returns-in-Err-clause-in_flight g c more is opened =
    let group = c.args.group in
    let xs = accepted c.args.log.now in
    c.save.ensures.any_moment (kept_of g.J.Naming.before xs) (events_in more) c.requires.held
    (λ keeps. saved_all g.K.Keeper.idle g.K.Keeper.first g.J.Naming.before g.J.Naming.opening group.log xs more
    (arc_value group.standing.snapshot) c.deref.result.now group.standing.counts.items c.requires.world c.requires.sealed
    (c.deref.ensures ∙ c.requires.alike) is keeps) opened

pub returns-in-Err-clause-begins : goal.returns-in-Err-clause-begins
returns-in-Err-clause-begins g c = prefix_self (accepted c.args.log.now)

pub returns-in-Err-clause-refused : goal.returns-in-Err-clause-refused
returns-in-Err-clause-refused g c = subst IsOfKeeping (sym c.refusal_of-error.ensures) (of_keeping c.in-Err.error)

-- it was kept

pub publish_kept-requires-clause-held : goal.publish_kept-requires-clause-held
publish_kept-requires-clause-held g c =
    let group = c.args.group in
    let xs = accepted c.args.log.now in
    let more = more_of group.log xs c.requires.follows in
    subst (λ (es : List Event). g.K.Keeper.holds c.save.new.self es)
    (sym (group_kept group.log xs c.requires.follows g.J.Naming.before (list_of group.log) refl))
    (c.in-Ok.ensures.ok (kept_of g.J.Naming.before xs) (events_in more) c.requires.held
    (λ keeps. saved_all g.K.Keeper.idle g.K.Keeper.first g.J.Naming.before g.J.Naming.opening group.log xs more
    (arc_value group.standing.snapshot) c.deref.result.now group.standing.counts.items c.requires.world c.requires.sealed
    (c.deref.ensures ∙ c.requires.alike) (group_parts group.log xs c.requires.follows) keeps))

pub publish_kept-requires-clause-last : goal.publish_kept-requires-clause-last
publish_kept-requires-clause-last g c more is =
    let group = c.args.group in
    let xs = accepted c.args.log.now in (
      events_in more,
      inl refl,
      c.in-Ok.ensures.last (kept_of g.J.Naming.before xs) (events_in more) c.requires.held
          (λ keeps. saved_all g.K.Keeper.idle g.K.Keeper.first g.J.Naming.before g.J.Naming.opening group.log xs more
          (arc_value group.standing.snapshot) c.deref.result.now group.standing.counts.items c.requires.world c.requires.sealed
          (c.deref.ensures ∙ c.requires.alike) is keeps),
    )

pub returns-clause-in_flight : goal.returns-clause-in_flight
returns-clause-in_flight g c more is opened =
    let k = g.K.Keeper in
    let group = c.args.group in
    let xs = accepted c.args.log.now in
    let events : List Event = kept_of g.J.Naming.before xs in
    after_tail k.moment k.left_since k.stands c.publish_kept.result.1 c.args.keeper.now c.save.new.self c.publish_kept.new.keeper events (λ (xs : List Entry). list_of group.log ≡ accepted c.args.log.now ++ xs)
    c.publish_kept.ensures.rest c.publish_kept.ensures.in_flight more is
    (c.save.ensures.any_moment events (events_in more) c.requires.held
    (λ keeps. saved_all k.idle k.first g.J.Naming.before g.J.Naming.opening group.log xs more
    (arc_value group.standing.snapshot) c.deref.result.now group.standing.counts.items c.requires.world c.requires.sealed
    (c.deref.ensures ∙ c.requires.alike) is keeps) opened)

pub returns-clause-closed : goal.returns-clause-closed
returns-clause-closed g c shut =
    still_closed g.K.Keeper.closed c.args.keeper.now c.save.new.self c.publish_kept.new.keeper shut (λ shut. (c.save.ensures.closed shut).1) c.in-Ok.ensures.open

pub returns-clause-open : goal.returns-clause-open
returns-clause-open g c = open_after g.K.Keeper.closed c.publish_kept.result.1 c.save.new.self c.publish_kept.new.keeper c.publish_kept.ensures.rest c.in-Ok.ensures.open

pub returns-clause-refused : goal.returns-clause-refused
returns-clause-refused g c = kept_keeping c.publish_kept.result.1 c.publish_kept.ensures.refused

pub returns-clause-journal : goal.returns-clause-journal
returns-clause-journal g c = kept_causes _ c.publish_kept.result.1 c.publish_kept.ensures.refused

pub returns-clause-lost : goal.returns-clause-lost
returns-clause-lost g c = kept_causes _ c.publish_kept.result.1 c.publish_kept.ensures.refused
