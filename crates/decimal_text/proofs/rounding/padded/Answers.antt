use Rattle.std.proofs.Common.{◌-◌, sym, ◌∙◌, arith}
use Rattle.decimal_text.proofs.Loops.{zeros_go, zeros_end}
use Rattle.decimal_text.proofs.rounding.padded.Goals as goal

pub loop-preserved : goal.loop-preserved
loop-preserved c =
    let l = c.loop in
    record {
      small = c.grown-n.ensures.bound;
      so_far =
          zeros_go c.args.zeros l.counter l.n c.grown-n.result c.loop-test.true
          c.grown-n.ensures.exact
          ∙ l.invariant.so_far;
    }

pub returns-clause-exact : goal.returns-clause-exact
returns-clause-exact c =
    let l = c.loop in
    sym (zeros_end (c.args.zeros - l.counter) l.n (omega arith)) ∙ l.invariant.so_far
