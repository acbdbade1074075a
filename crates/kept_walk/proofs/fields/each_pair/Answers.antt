use Rattle.std.proofs.Common.{◌≡◌, ◌++◌, ◌∷◌, []}
use Rattle.std.proofs.lemmas.List.{map_push}
use Rattle.labels.specs.Pairs.{texts_of}
use Rattle.std.proofs.lemmas.Result.{err_from_is_err_and}
use Rattle.kept_walk.specs.Reading.{pair_at}
use Rattle.kept_walk.proofs.Loops.{goes_on, fails, is_done}
use Rattle.kept_walk.proofs.fields.each_pair.Goals as goal

pub returns-in_err-pair : goal.returns-in_err-pair
returns-in_err-pair c =
    let p = err_from_is_err_and c.from_residual.result c.from_residual.ensures.1 in
    let l = c.loop-counter in
    rw (p.1, p.2) (fails pair_at (texts_of l.pairs.items) c.args.count l.counter l.rest.now c.args.bytes.now l.invariant
    c.in_err-pair.field-0.0 c.loop-counter-test.true c.in_err-pair.ensures)

pub loop-counter-preserved : goal.loop-counter-preserved
loop-counter-preserved c =
    let l = c.loop-counter in
    let more : texts_of c.push.new.self.items ≡ texts_of l.pairs.items ++ (c.in_ok-pair.pair.0.now, c.in_ok-pair.pair.1.now) ∷ [] =
    rw c.in_ok-push.ensures.items (map_push _ l.pairs.items c.in_ok-pair.pair) in
    rw more (goes_on pair_at (texts_of l.pairs.items) c.args.count l.counter l.rest.now c.args.bytes.now l.invariant
    ((c.in_ok-pair.pair.0.now, c.in_ok-pair.pair.1.now)) c.in_ok-pair.after.now c.loop-counter-test.true c.in_ok-pair.ensures)

pub returns : goal.returns
returns c =
    let l = c.loop-counter in
    is_done pair_at (texts_of l.pairs.items) c.args.count l.counter l.rest.now c.args.bytes.now l.invariant
    c.loop-counter-test.false
