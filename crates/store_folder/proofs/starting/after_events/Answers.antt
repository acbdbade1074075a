use Rattle.std.proofs.Common.{◌<◌, ◌∙◌, List, length, refl, subst, sym, ap, arith}
use Rattle.std.proofs.lemmas.List.{take_all}
use Rattle.head.specs.Heads.{world_of}
use Rattle.head.specs.Worlds.{Event, replayed}
use Rattle.head.proofs.Replays.{replayed_more, refuses_at}
use Rattle.store_folder.specs.Starting.{LeadTo}
use Rattle.store_folder.proofs.Starts.{leads_more}
use Rattle.store_folder.proofs.starting.after_events.Goals as goal

pub loop-place-init : goal.loop-place-init
loop-place-init c = (refl, refl)

pub loop-place-preserved : goal.loop-place-preserved
loop-place-preserved c =
    let l = c.loop-place in
    let events = c.args.events.now in
    let within : l.place < length events = omega (arith, c.loop-place-test.true) in
    let is = c.index-events-place.is in (
      replayed_more (world_of c.args.snapshot) (world_of l.at) (world_of c.in-Ok.next) events l.place
          c.index-events-place.result within is l.invariant.0 c.in-Ok.ensures.ok,
      leads_more c.args.snapshot l.at c.in-Ok.next events l.place c.index-events-place.result within
          is l.invariant.1 c.in-Ok.ensures.ok c.in-Ok.ensures.kept,
    )

pub returns-in-Err-clause-refused : goal.returns-in-Err-clause-refused
returns-in-Err-clause-refused c =
    let l = c.loop-place in
    record {
      refused = record { at = l.place; error = c.in-Err.error };
      is = refl;
      there = refuses_at (world_of c.args.snapshot) (world_of l.at) c.args.events.now l.place
          c.index-events-place.result c.in-Err.error (omega (arith, c.loop-place-test.true))
          c.index-events-place.is l.invariant.0 c.in-Err.ensures.refused;
    }

pub returns-clause-ok : goal.returns-clause-ok
returns-clause-ok c =
    let l = c.loop-place in
    ap (replayed (world_of c.args.snapshot))
    (sym (take_all l.place c.args.events.now (omega (arith, c.loop-place-test.false))))
    ∙ l.invariant.0

pub returns-clause-reached : goal.returns-clause-reached
returns-clause-reached c =
    let l = c.loop-place in
    subst (λ (es : List Event). LeadTo c.args.snapshot es l.at)
    (take_all l.place c.args.events.now (omega (arith, c.loop-place-test.false))) l.invariant.1
