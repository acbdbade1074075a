use Rattle.snapshots.specs.Keeping.{IsOfKeeping}
use Rattle.snapshots.proofs.Keeps.{held_more, hindered, in_flight, last_more, may_be_handed, of_keeping}
use Rattle.std.proofs.Common.{List, sym, subst}
use Rattle.head.specs.Worlds.{Event}
use Rattle.snapshots.proofs.keeping.keep.Goals as goal

pub keep-requires : goal.keep-requires
keep-requires g c =
    let k = g.K.Keeper in
    let held = c.requires.held in
    record {
      held = may_be_handed k.idle k.holds k.may c.args.keeper.now c.args.bytes.now k.any held.0 held.1 held.2 held.3 held.4;
    }

pub returns-in-Ok-clause-ok : goal.returns-in-Ok-clause-ok
returns-in-Ok-clause-ok g c events more held spelled =
    held_more g.K.Keeper.idle g.K.Keeper.holds c.args.keeper.now c.keep.new.self c.args.bytes.now g.K.Keeper.any c.in-Ok.ensures.ok events more held spelled

pub returns-in-Ok-clause-last : goal.returns-in-Ok-clause-last
returns-in-Ok-clause-last g c events more held spelled =
    last_more g.K.Keeper.idle (λ (few : List Event). g.K.Keeper.kept_last c.keep.new.self c.in-Ok.last events few) c.args.bytes.now more
    (λ few spells. c.in-Ok.ensures.last events few held spells) spelled

pub returns-in-Ok-clause-in_flight : goal.returns-in-Ok-clause-in_flight
returns-in-Ok-clause-in_flight g c events more held spelled opened =
    let k = g.K.Keeper in
    in_flight k.moment k.left_since k.stands c.args.keeper.now c.keep.new.self k.idle c.args.bytes.now events more
    (λ few spells. c.keep.ensures.any_moment events few held spells opened) spelled

pub returns-in-Err-clause-in_flight : goal.returns-in-Err-clause-in_flight
returns-in-Err-clause-in_flight g c events more held spelled opened =
    let k = g.K.Keeper in
    in_flight k.moment k.left_since k.stands c.args.keeper.now c.keep.new.self k.idle c.args.bytes.now events more
    (λ few spells. c.keep.ensures.any_moment events few held spells opened) spelled

pub returns-in-Err-clause-refused : goal.returns-in-Err-clause-refused
returns-in-Err-clause-refused g c = subst IsOfKeeping (sym c.refusal_of.ensures) (of_keeping c.in-Err.error)

pub returns-in-Err-clause-cause : goal.returns-in-Err-clause-cause
returns-in-Err-clause-cause g c =
    hindered c.in-Err.error c.refusal_of.result c.refusal_of.ensures c.in-Err.ensures.told c.in-Err.ensures.full c.in-Err.ensures.failed
