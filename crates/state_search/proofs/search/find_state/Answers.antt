use Rattle.std.proofs.Common.{◌≡◌, ◌+◌, get_or, sym, ap, subst, ◌∙◌, arith, Some, None}
use Rattle.kept_walk.specs.Kept.{Event, event_of}
use Rattle.kept_world.specs.States.{State, stepped}
use Rattle.kept_world.specs.Changes.{events_of}
use Rattle.kept_world.proofs.Growing.{next_number, events_many}
use Rattle.state_search.proofs.Runs.{run_grows}
use Rattle.state_search.proofs.Finding.{IsKnown, event_at, refused_behind, stepped_on, looked, at_end}
use Rattle.state_search.proofs.search.find_state.Goals as goal

pub before-requires-clause-grows : goal.before-requires-clause-grows
before-requires-clause-grows g c = λ p q a b l.
    run_grows c.args.world (events_of c.args.changes.now) c.loop-i.progress.from c.loop-i.world p q c.loop-i.invariant.run a b l

pub look-requires : goal.look-requires
look-requires g c = λ p q a b l.
    run_grows c.args.world (events_of c.args.changes.now) c.loop-i.progress.from c.loop-i.world p q c.loop-i.invariant.run a b l

pub returns-in-None : goal.returns-in-None
returns-in-None g c =
    let xs = c.args.changes.now in
    let i = c.loop-i.i in
    let x = c.index-changes-i.result in
    let many = events_many xs in
    let refused : stepped c.loop-i.world (event_of x) ≡ None = sym c.in_ok-next.ensures ∙ c.in-None.is in
    refused_behind c.args.world (events_of xs) c.loop-i.progress.from c.loop-i.world i (event_of x) c.loop-i.invariant.run
    c.loop-i.invariant.number (omega (arith, many)) (event_at xs i x (omega arith) c.index-changes-i.is) refused

pub loop-i-preserved : goal.loop-i-preserved
loop-i-preserved g c =
    let right = g.T.Told.right c.args.told.now in
    let sound = g.T.Told.sound c.args.told.now in
    let xs = c.args.changes.now in
    let events = events_of xs in
    let i = c.loop-i.i in
    let x = c.index-changes-i.result in
    let many = events_many xs in
    let e : Event = event_of x in
    let last : State = c.loop-i.world in
    let next : State = c.in-Some.next in
    let at : last.number ≡ i = c.loop-i.invariant.number in
    let step : stepped last e ≡ Some next = sym c.in_ok-next.ensures ∙ c.in-Some.is in
    let is : e ≡ get_or events last.number e =
    event_at xs i x (omega arith) c.index-changes-i.is ∙ ap (λ n. get_or events n e) (sym at) in
    let n = next_number last next e step in
    let w = stepped_on right sound c.args.since c.args.world events last next e c.loop-i.progress c.in_ok-progress.progress
    c.loop-i.invariant.run c.loop-i.invariant.known (omega (arith, many, at)) is step c.in_ok-progress.ensures in
    record { number = omega (arith, n, at); run = w.run; known = w.known }

pub returns-in-Some-2 : goal.returns-in-Some-2
returns-in-Some-2 g c =
    let right = g.T.Told.right c.args.told.now in
    let sound = g.T.Told.sound c.args.told.now in
    let events = events_of c.args.changes.now in
    let known = looked right sound c.args.since c.args.world events c.loop-i.world c.loop-i.progress c.in_ok-at.field-0
    c.loop-i.invariant.run c.loop-i.invariant.known c.in_ok-at.ensures in
    subst (IsKnown right sound c.args.since c.args.world events (c.loop-i.world.number + 1)) c.in-Some-2.is known

pub returns : goal.returns
returns g c =
    let right = g.T.Told.right c.args.told.now in
    let sound = g.T.Told.sound c.args.told.now in
    let xs = c.args.changes.now in
    let events = events_of xs in
    let many = events_many xs in
    let at = c.loop-i.invariant.number in
    let known = looked right sound c.args.since c.args.world events c.loop-i.world c.loop-i.progress c.in_ok-at.field-0
    c.loop-i.invariant.run c.loop-i.invariant.known c.in_ok-at.ensures in
    at_end right sound c.args.since c.args.world events c.loop-i.world.number (omega (arith, many, at))
    (subst (IsKnown right sound c.args.since c.args.world events (c.loop-i.world.number + 1)) c.in-None-2.is known)
