use Rattle.std.proofs.Common.{◌≡◌, ◌++◌, ◌∷◌, []}
use Rattle.std.proofs.lemmas.Result.{err_from_is_err_and}
use Rattle.std.proofs.lemmas.List.{map_push}
use Rattle.labels.specs.Pairs.{texts_of}
use Rattle.event_text.specs.Reading.{pair_at, each_at}
use Rattle.event_text.proofs.Loops.{goes_on, ends, is_done}
use Rattle.event_text.proofs.reading.pairs_of.Goals as goal

pub returns-in_err-pair : goal.returns-in_err-pair
returns-in_err-pair c =
    let p = err_from_is_err_and c.from_residual.result c.from_residual.ensures.1 in
    let l = c.loop-counter in
    rw (p.1, p.2) (ends pair_at c.in_err-pair.field-0.0 (texts_of l.pairs.items) c.args.count l.counter l.rest.now
    (each_at pair_at c.args.count c.args.bytes.now) c.loop-counter-test.true c.in_err-pair.ensures
    l.invariant)

pub loop-counter-preserved : goal.loop-counter-preserved
loop-counter-preserved c =
    let l = c.loop-counter in
    let x = c.in_ok-pair.pair in
    let e : texts_of c.push.new.self.items ≡ texts_of l.pairs.items ++ (x.0.now, x.1.now) ∷ [] =
    rw c.in_ok-push.ensures.items (map_push _ l.pairs.items x) in
    rw e (goes_on pair_at (texts_of l.pairs.items) c.args.count l.counter l.rest.now ((x.0.now, x.1.now)) c.in_ok-pair.after.now
    (each_at pair_at c.args.count c.args.bytes.now) c.loop-counter-test.true c.in_ok-pair.ensures
    l.invariant)

pub returns : goal.returns
returns c =
    let l = c.loop-counter in
    is_done pair_at (texts_of l.pairs.items) c.args.count l.counter l.rest.now
    (each_at pair_at c.args.count c.args.bytes.now) c.loop-counter-test.false l.invariant
