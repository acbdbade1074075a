use Rattle.std.proofs.Common.{sym, ◌∙◌, arith}
use Rattle.decimal_text.proofs.Loops.{cut_goes, cut_ends}
use Rattle.decimal_text.proofs.rounding.cut_after.Goals as goal

pub loop-c-preserved : goal.loop-c-preserved
loop-c-preserved c =
    let l = c.loop-c in
    record {
      small = c.with_next-cut.ensures.bound;
      so_far =
          cut_goes c.args.digits.now l.c-index l.cut c.with_next-cut.result (omega arith)
          c.with_next-cut.ensures.exact
          ∙ l.invariant.so_far;
    }

pub returns-clause-exact : goal.returns-clause-exact
returns-clause-exact c =
    let l = c.loop-c in
    sym (cut_ends c.args.digits.now l.c-index l.cut (omega arith)) ∙ l.invariant.so_far
