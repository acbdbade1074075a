use Rattle.std.proofs.Common.{◌≡◌, ◌++◌, ◌∷◌, [], ℤ, rules}
use Rattle.std.proofs.lemmas.Result.{err_from_is_err_and}
use Rattle.event_text.specs.Reading.{sample_at, each_at}
use Rattle.event_text.proofs.Loops.{goes_on, ends, is_done}
use Rattle.event_text.proofs.reading.samples_of.Goals as goal

pub returns-in_err-time : goal.returns-in_err-time
returns-in_err-time c =
    let p = err_from_is_err_and c.from_residual.result c.from_residual.ensures.1 in
    let l = c.loop-counter in
    rw (p.1, p.2) (ends sample_at c.in_err-time.field-0.0 l.samples.items c.args.count l.counter l.rest.now
    (each_at sample_at c.args.count c.args.bytes.now) c.loop-counter-test.true c.in_err-time.ensures
    l.invariant)

pub loop-counter-preserved : goal.loop-counter-preserved
loop-counter-preserved c =
    let l = c.loop-counter in
    let x : ℤ × ℤ = (c.in_ok-time.time, c.in_ok-time.value) in
    let e : c.push.new.self.items ≡ l.samples.items ++ x ∷ [] = search rules in
    rw e (goes_on sample_at l.samples.items c.args.count l.counter l.rest.now x c.in_ok-time.after.now
    (each_at sample_at c.args.count c.args.bytes.now) c.loop-counter-test.true c.in_ok-time.ensures
    l.invariant)

pub returns : goal.returns
returns c =
    let l = c.loop-counter in
    is_done sample_at l.samples.items c.args.count l.counter l.rest.now
    (each_at sample_at c.args.count c.args.bytes.now) c.loop-counter-test.false l.invariant
