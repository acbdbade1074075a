use Rattle.std.proofs.Common.{◌≡◌, [], ap, length, arith, rules}
use Rattle.std.proofs.lemmas.Grind.{common_steps}
use Rattle.std.proofs.lemmas.Result.{err_from_is_err_and}
use Rattle.explain.proofs.Reading.{judged}
use Rattle.explain.proofs.judging.lines_of.Goals as goal

pub returns-clause-ok : goal.returns-clause-ok
returns-clause-ok c =
    judged _ _ _ _
    (λ (none : c.args.tables.now ≡ []). let nothing : length c.args.tables.now ≡ 0 = ap length none in
    first_of (omega arith, search rules, grind (arith, common_steps)))
    (record { reply = c.in_ok-reply.reply; says = c.in_ok-reply.ensures.ok; are_lines = c.in_ok-judge.ensures })

pub returns-in_err-reply-clause-err : goal.returns-in_err-reply-clause-err
returns-in_err-reply-clause-err c =
    let p = err_from_is_err_and c.from_residual.result c.from_residual.ensures.1 in
    rw (p.1, p.2) c.in_err-reply.ensures.err
