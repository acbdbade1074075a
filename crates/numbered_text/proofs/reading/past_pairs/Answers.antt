use Rattle.std.proofs.Common.{arith}
use Rattle.std.proofs.lemmas.Result.{err_from_is_err_and}
use Rattle.numbered_text.specs.Reading.{past_pairs}
use Rattle.numbered_text.proofs.Loops.{pairs_done, pairs_first, pairs_on, pairs_second}
use Rattle.numbered_text.proofs.reading.past_pairs.Goals as goal

pub returns-in_err-value-clause-exact : goal.returns-in_err-value-clause-exact
returns-in_err-value-clause-exact c =
    let p = err_from_is_err_and c.from_residual.result c.from_residual.ensures.1 in
    let l = c.loop-counter in
    rw (p.1, p.2) (pairs_first c.in_err-value.field-0.0 c.args.count l.counter l.rest.now
    (past_pairs c.args.count c.args.bytes.now) c.loop-counter-test.true
    c.in_err-value.ensures.exact l.invariant.read)

pub returns-in_err-after-clause-exact : goal.returns-in_err-after-clause-exact
returns-in_err-after-clause-exact c =
    let p = err_from_is_err_and c.from_residual-in_err-after.result
    c.from_residual-in_err-after.ensures.1 in
    let l = c.loop-counter in
    rw (p.1, p.2) (pairs_second c.in_err-after.field-0.0 c.args.count l.counter l.rest.now
    c.in_ok-value.value.now (past_pairs c.args.count c.args.bytes.now) c.loop-counter-test.true
    c.in_ok-value.ensures.exact c.in_err-after.ensures.exact l.invariant.read)

pub loop-counter-preserved : goal.loop-counter-preserved
loop-counter-preserved c =
    let l = c.loop-counter in
    record {
      read = pairs_on c.args.count l.counter l.rest.now c.in_ok-value.value.now
          c.in_ok-after.after.now (past_pairs c.args.count c.args.bytes.now)
          c.loop-counter-test.true c.in_ok-value.ensures.exact c.in_ok-after.ensures.exact
          l.invariant.read;
      shorter = omega (
        arith,
        l.invariant.shorter,
        c.in_ok-value.ensures.shorter,
        c.in_ok-after.ensures.shorter,
      );
    }

pub returns-clause-exact : goal.returns-clause-exact
returns-clause-exact c =
    let l = c.loop-counter in
    pairs_done c.args.count l.counter l.rest.now (past_pairs c.args.count c.args.bytes.now)
    c.loop-counter-test.false l.invariant.read
