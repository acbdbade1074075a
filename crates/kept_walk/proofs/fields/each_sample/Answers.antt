use Rattle.std.proofs.Common.{◌≡◌, ◌++◌, ◌∷◌, [], ℤ, rules}
use Rattle.std.proofs.lemmas.Result.{err_from_is_err_and}
use Rattle.kept_walk.specs.Reading.{sample_at}
use Rattle.kept_walk.proofs.Loops.{goes_on, fails, is_done}
use Rattle.kept_walk.proofs.fields.each_sample.Goals as goal

pub returns-in_err-time : goal.returns-in_err-time
returns-in_err-time c =
    let p = err_from_is_err_and c.from_residual.result c.from_residual.ensures.1 in
    let l = c.loop-counter in
    rw (p.1, p.2) (fails sample_at (l.samples.items) c.args.count l.counter l.rest.now c.args.bytes.now l.invariant
    c.in_err-time.field-0.0 c.loop-counter-test.true c.in_err-time.ensures)

pub loop-counter-preserved : goal.loop-counter-preserved
loop-counter-preserved c =
    let l = c.loop-counter in
    let x : ℤ × ℤ = (c.in_ok-time.time, c.in_ok-time.value) in
    let more : c.push.new.self.items ≡ l.samples.items ++ x ∷ [] = search rules in
    rw more (goes_on sample_at (l.samples.items) c.args.count l.counter l.rest.now c.args.bytes.now l.invariant
    (x) c.in_ok-time.after.now c.loop-counter-test.true c.in_ok-time.ensures)

pub returns : goal.returns
returns c =
    let l = c.loop-counter in
    is_done sample_at (l.samples.items) c.args.count l.counter l.rest.now c.args.bytes.now l.invariant
    c.loop-counter-test.false
