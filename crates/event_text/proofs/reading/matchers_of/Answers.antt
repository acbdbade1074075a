use Rattle.std.proofs.Common.{◌≡◌, ◌++◌, ◌∷◌, []}
use Rattle.std.proofs.lemmas.Result.{err_from_is_err_and}
use Rattle.std.proofs.lemmas.List.{map_push}
use Rattle.event_text.specs.Views.{matcher_in, matchers_in}
use Rattle.event_text.specs.Reading.{matcher_at, each_at}
use Rattle.event_text.proofs.Loops.{goes_on, ends, is_done}
use Rattle.event_text.proofs.reading.matchers_of.Goals as goal

pub returns-in_err-matcher : goal.returns-in_err-matcher
returns-in_err-matcher c =
    let p = err_from_is_err_and c.from_residual.result c.from_residual.ensures.1 in
    let l = c.loop-counter in
    rw (p.1, p.2) (ends matcher_at c.in_err-matcher.field-0.0 (matchers_in l.matchers.items) c.args.count l.counter l.rest.now
    (each_at matcher_at c.args.count c.args.bytes.now) c.loop-counter-test.true c.in_err-matcher.ensures
    l.invariant)

pub loop-counter-preserved : goal.loop-counter-preserved
loop-counter-preserved c =
    let l = c.loop-counter in
    let x = c.in_ok-matcher.matcher in
    let e : matchers_in c.push.new.self.items ≡ matchers_in l.matchers.items ++ matcher_in x ∷ [] =
    rw c.in_ok-push.ensures.items (map_push _ l.matchers.items x) in
    rw e (goes_on matcher_at (matchers_in l.matchers.items) c.args.count l.counter l.rest.now (matcher_in x) c.in_ok-matcher.after.now
    (each_at matcher_at c.args.count c.args.bytes.now) c.loop-counter-test.true c.in_ok-matcher.ensures
    l.invariant)

pub returns : goal.returns
returns c =
    let l = c.loop-counter in
    is_done matcher_at (matchers_in l.matchers.items) c.args.count l.counter l.rest.now
    (each_at matcher_at c.args.count c.args.bytes.now) c.loop-counter-test.false l.invariant
