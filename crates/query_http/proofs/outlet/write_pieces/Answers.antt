use Rattle.std.proofs.Common.{◌++◌, ap, sym, subst, ◌∙◌}
use Rattle.answers.specs.Joined.{joined}
use Rattle.query_http.proofs.Written.{IsWrittenTo, on_err, piece_front, piece_more}
use Rattle.query_http.proofs.outlet.write_pieces.Goals as goal

pub returns-in_err-write_whole-clause-err : goal.returns-in_err-write_whole-clause-err
returns-in_err-write_whole-clause-err g c =
    let a = g.W.Outlet.output c.args.writer.now in
    let b = g.W.Outlet.output c.loop-first.writer in
    let rest = joined c.in-Some.later.now in
    on_err c.from_residual.result _
    (piece_front a b (g.W.Outlet.output c.write_whole.new.writer) (joined c.args.pieces.now)
    c.as_slice.result.now rest
    (subst (IsWrittenTo a b (joined c.args.pieces.now)) (ap joined c.in-Some.ensures.cases.0
    ∙ ap (λ s. s ++ rest) (sym c.as_slice.ensures.value)) c.loop-first.invariant.0)
    c.in_err-write_whole.ensures.err)

pub loop-first-preserved : goal.loop-first-preserved
loop-first-preserved g c =
    let a = g.W.Outlet.output c.args.writer.now in
    let b = g.W.Outlet.output c.loop-first.writer in
    let rest = joined c.in-Some.later.now in (
      piece_more a b (g.W.Outlet.output c.write_whole.new.writer) (joined c.args.pieces.now)
          c.as_slice.result.now rest
          (subst (IsWrittenTo a b (joined c.args.pieces.now)) (ap joined c.in-Some.ensures.cases.0
          ∙ ap (λ s. s ++ rest) (sym c.as_slice.ensures.value)) c.loop-first.invariant.0)
          c.in_ok-write_whole.ensures.ok,
      c.in_ok-write_whole.ensures.counted ∙ c.loop-first.invariant.1,
    )
