use Rattle.std.proofs.Common.{List, [], append-nil, arith, ap, refl, subst, sym, ◌∙◌}
use Rattle.std.proofs.lemmas.List.{take_all}
use Rattle.head.specs.Heads.{world_of}
use Rattle.head.specs.Replaying.{DeleteNothing}
use Rattle.head.specs.Worlds.{Event, replayed}
use Rattle.head.proofs.Replays.{first_more, replayed_more, refuses_at}
use Rattle.head.proofs.replaying.replay.Goals as goal

pub loop-place-init : goal.loop-place-init
loop-place-init c = record {
  world = refl;
  blocks = λ none. ([], sym (append-nil c.args.at.blocks));
}

pub returns-in-Err-clause-refused : goal.returns-in-Err-clause-refused
returns-in-Err-clause-refused c =
    refuses_at (world_of c.args.at) (world_of c.loop-place.snapshot) c.args.events.now
    c.loop-place.place c.index-events-place.result c.in-Err.error
    (omega (arith, c.loop-place-test.true)) c.index-events-place.is c.loop-place.invariant.world
    c.in-Err.ensures.refused

pub loop-place-preserved : goal.loop-place-preserved
loop-place-preserved c = record {
  world = replayed_more (world_of c.args.at) (world_of c.loop-place.snapshot)
      (world_of c.in-Ok.next) c.args.events.now c.loop-place.place c.index-events-place.result
      (omega (arith, c.loop-place-test.true)) c.index-events-place.is c.loop-place.invariant.world
      c.in-Ok.ensures.ok;
  blocks = first_more c.args.at.blocks c.loop-place.snapshot c.in-Ok.next.blocks
      c.args.events.now c.loop-place.place c.index-events-place.result
      (omega (arith, c.loop-place-test.true)) c.index-events-place.is
      c.loop-place.invariant.blocks c.in-Ok.ensures.kept;
}

pub returns-clause-ok : goal.returns-clause-ok
returns-clause-ok c =
    ap (replayed (world_of c.args.at))
    (sym (take_all c.loop-place.place c.args.events.now (omega (arith, c.loop-place-test.false))))
    ∙ c.loop-place.invariant.world

pub returns-clause-blocks : goal.returns-clause-blocks
returns-clause-blocks c none =
    c.loop-place.invariant.blocks
    (subst (λ (events : List Event). DeleteNothing events)
    (sym (take_all c.loop-place.place c.args.events.now (omega (arith, c.loop-place-test.false))))
    none)
