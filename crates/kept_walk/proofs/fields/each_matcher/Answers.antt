use Rattle.std.proofs.Common.{◌≡◌, ◌++◌, ◌∷◌, []}
use Rattle.std.proofs.lemmas.List.{map_push}
use Rattle.kept_walk.specs.Parts.{matcher_in, matchers_in}
use Rattle.std.proofs.lemmas.Result.{err_from_is_err_and}
use Rattle.kept_walk.specs.Reading.{matcher_at}
use Rattle.kept_walk.proofs.Loops.{goes_on, fails, is_done}
use Rattle.kept_walk.proofs.fields.each_matcher.Goals as goal

pub returns-in_err-matcher : goal.returns-in_err-matcher
returns-in_err-matcher c =
    let p = err_from_is_err_and c.from_residual.result c.from_residual.ensures.1 in
    let l = c.loop-counter in
    rw (p.1, p.2) (fails matcher_at (matchers_in l.matchers.items) c.args.count l.counter l.rest.now c.args.bytes.now l.invariant
    c.in_err-matcher.field-0.0 c.loop-counter-test.true c.in_err-matcher.ensures)

pub loop-counter-preserved : goal.loop-counter-preserved
loop-counter-preserved c =
    let l = c.loop-counter in
    let more : matchers_in c.push.new.self.items ≡ matchers_in l.matchers.items ++ matcher_in c.in_ok-matcher.matcher ∷ [] =
    rw c.in_ok-push.ensures.items (map_push _ l.matchers.items c.in_ok-matcher.matcher) in
    rw more (goes_on matcher_at (matchers_in l.matchers.items) c.args.count l.counter l.rest.now c.args.bytes.now l.invariant
    (matcher_in c.in_ok-matcher.matcher) c.in_ok-matcher.after.now c.loop-counter-test.true c.in_ok-matcher.ensures)

pub returns : goal.returns
returns c =
    let l = c.loop-counter in
    is_done matcher_at (matchers_in l.matchers.items) c.args.count l.counter l.rest.now c.args.bytes.now l.invariant
    c.loop-counter-test.false
