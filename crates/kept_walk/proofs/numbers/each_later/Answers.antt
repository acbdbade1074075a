use Rattle.std.proofs.Common.{◌≡◌, ◌++◌, ◌∷◌, [], ℤ, rules}
use Rattle.std.proofs.lemmas.Result.{err_from_is_err_and}
use Rattle.kept_walk.specs.NumberedReading.{later_at}
use Rattle.kept_walk.proofs.LoopsBy.{fails, goes_on, is_done, starts}
use Rattle.kept_walk.proofs.numbers.each_later.Goals as goal

pub loop-counter-init : goal.loop-counter-init
loop-counter-init c =
    rw c.new-samples.ensures.items (starts later_at c.args.count c.args.time.now c.args.bytes.now)

pub returns-in_err-at : goal.returns-in_err-at
returns-in_err-at c =
    let p = err_from_is_err_and c.from_residual.result c.from_residual.ensures.1 in
    let l = c.loop-counter in
    rw (p.1, p.2) (fails later_at l.samples.items c.args.count l.counter l.time l.rest.now
    c.args.time.now c.args.bytes.now l.invariant c.in_err-at.field-0.0 c.loop-counter-test.true
    c.in_err-at.ensures)

pub loop-counter-preserved : goal.loop-counter-preserved
loop-counter-preserved c =
    let l = c.loop-counter in
    let x : ℤ × ℤ = (c.in_ok-at.at, c.in_ok-at.value) in
    let more : c.push.new.self.items ≡ l.samples.items ++ x ∷ [] = search rules in
    rw more (goes_on later_at l.samples.items c.args.count l.counter l.time l.rest.now
    c.args.time.now c.args.bytes.now l.invariant x c.later_of.new.time c.in_ok-at.after.now
    c.loop-counter-test.true c.in_ok-at.ensures)

pub returns : goal.returns
returns c =
    let l = c.loop-counter in
    is_done later_at l.samples.items c.args.count l.counter l.time l.rest.now c.args.time.now
    c.args.bytes.now l.invariant c.loop-counter-test.false
