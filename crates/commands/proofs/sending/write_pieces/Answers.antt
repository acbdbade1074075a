use Rattle.std.proofs.Common.{◌++◌, ap, sym, subst, ◌∙◌}
use Rattle.answers.specs.Joined.{joined}
use Rattle.commands.proofs.Sendings.{IsWrittenTo, on_err, piece_more, piece_prefix}
use Rattle.commands.proofs.sending.write_pieces.Goals as goal

pub returns-in_err-write_text-clause-err : goal.returns-in_err-write_text-clause-err
returns-in_err-write_text-clause-err g c =
    let a = g.W.Write.contents c.args.out.now in
    let b = g.W.Write.contents c.loop-first.out in
    let rest = joined c.in-Some.later.now in
    on_err c.from_residual.result
    (piece_prefix a b (g.W.Write.contents c.write_text.new.out) (joined c.args.pieces.now)
    c.as_slice.result.now rest
    (subst (IsWrittenTo a b (joined c.args.pieces.now)) (ap joined c.in-Some.ensures.cases.0
    ∙ ap (λ s. s ++ rest) (sym c.as_slice.ensures.value)) c.loop-first.invariant)
    c.in_err-write_text.ensures.err)

pub loop-first-preserved : goal.loop-first-preserved
loop-first-preserved g c =
    let a = g.W.Write.contents c.args.out.now in
    let b = g.W.Write.contents c.loop-first.out in
    let rest = joined c.in-Some.later.now in
    piece_more a b (g.W.Write.contents c.write_text.new.out) (joined c.args.pieces.now)
    c.as_slice.result.now rest
    (subst (IsWrittenTo a b (joined c.args.pieces.now)) (ap joined c.in-Some.ensures.cases.0
    ∙ ap (λ s. s ++ rest) (sym c.as_slice.ensures.value)) c.loop-first.invariant)
    c.in_ok-write_text.ensures.ok
