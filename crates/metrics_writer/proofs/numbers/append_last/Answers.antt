use Rattle.std.proofs.Common.{◌∷◌, [], ◌++◌, ◌-◌, ap, ◌∙◌, arith}
use Rattle.metrics_writer.proofs.Loops.{digits_done, digits_next, done, moved}
use Rattle.metrics_writer.proofs.numbers.append_last.Goals as goal

pub loop-i-preserved : goal.loop-i-preserved
loop-i-preserved c =
    let l = c.loop-i in
    moved _ _ _ _ _ _ (c.in_ok-push.ensures.items
    ∙ ap (λ d. l.out.items ++ d ∷ []) c.digit_at.ensures)
    (digits_next c.args.digits l.i (c.args.digits - 1 - l.i) c.args.n (omega arith) (omega arith))
    l.invariant

pub returns : goal.returns
returns c =
    let l = c.loop-i in
    done _ _ _ (digits_done c.args.digits l.i c.args.n (omega arith)) l.invariant
