use Rattle.std.proofs.Common.{◌≡◌, ◌+◌, ◌∙◌, sym, ap, arith, Some, None, List}
use Rattle.kept_walk.specs.Kept.{Event, event_of}
use Rattle.kept_world.specs.States.{stepped, state_after}
use Rattle.kept_world.proofs.Growing.{one_more, next_number, take-map, events_many}
use Rattle.kept_world.proofs.world.World.replay.Goals as goal

pub returns-in-None : goal.returns-in-None
returns-in-None c =
    let xs = c.args.changes.now in
    let i = c.loop-i.i in
    let x = c.index-changes-i.result in
    let many = events_many xs in
    let refused : stepped c.loop-i.world (event_of x) ≡ None = sym c.in_ok-next.ensures ∙ c.in-None.is in
    record {
      within = omega (arith, many);
      before = (c.loop-i.world, ap (λ (es : List Event). state_after es c.args.self) (take-map event_of xs i) ∙ c.loop-i.invariant.state);
      refused =
          ap (λ (es : List Event). state_after es c.args.self) (take-map event_of xs (i + 1))
          ∙ one_more event_of xs i x c.args.self c.loop-i.world (omega arith) c.loop-i.invariant.state
          ∙ ap (λ z. stepped c.loop-i.world (event_of z)) (sym c.index-changes-i.is) ∙ refused;
    }

pub loop-i-preserved : goal.loop-i-preserved
loop-i-preserved c =
    let xs = c.args.changes.now in
    let i = c.loop-i.i in
    let x = c.index-changes-i.result in
    let next : stepped c.loop-i.world (event_of x) ≡ Some c.in-Some.next = sym c.in_ok-next.ensures ∙ c.in-Some.is in
    let n = next_number c.loop-i.world c.in-Some.next (event_of x) next in
    record {
      number = omega (arith, n, c.loop-i.invariant.number);
      state =
          one_more event_of xs i x c.args.self c.loop-i.world (omega arith) c.loop-i.invariant.state
          ∙ ap (λ z. stepped c.loop-i.world (event_of z)) (sym c.index-changes-i.is) ∙ next;
    }
