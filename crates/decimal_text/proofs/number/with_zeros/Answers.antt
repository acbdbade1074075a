use Rattle.std.proofs.Common.{◌-◌, sym, ◌∙◌, arith}
use Rattle.std.proofs.lemmas.Result.{err_from_is_err_and}
use Rattle.decimal_text.proofs.Loops.{pad_goes, pad_fails, pad_ends}
use Rattle.decimal_text.proofs.number.with_zeros.Goals as goal

pub returns-in_err-m-clause-exact : goal.returns-in_err-m-clause-exact
returns-in_err-m-clause-exact c =
    let p = err_from_is_err_and c.from_residual.result c.from_residual.ensures.1 in
    let l = c.loop in
    rw (p.1, p.2) (sym l.invariant.so_far
    ∙ pad_fails c.args.left l.counter l.m c.in_err-m.field-0.0 c.loop-test.true c.in_err-m.ensures.exact)

pub loop-preserved : goal.loop-preserved
loop-preserved c =
    let l = c.loop in
    record {
      small = c.in_ok-m.ensures.bound;
      so_far =
          pad_goes c.args.left l.counter l.m c.in_ok-m.m c.loop-test.true c.in_ok-m.ensures.exact
          ∙ l.invariant.so_far;
    }

pub returns-clause-exact : goal.returns-clause-exact
returns-clause-exact c =
    let l = c.loop in
    sym l.invariant.so_far ∙ pad_ends (c.args.left - l.counter) l.m (omega arith)
