use Rattle.std.proofs.Common.{◌≡◌, sym, ◌∙◌, ◌++◌, ◌∷◌, [], arith}
use Rattle.packed_chunks.proofs.RowLaws.{same_by_test}
use Rattle.block.proofs.Steps.{take_next, take_whole}
use Rattle.block.proofs.comparing.are_same_samples.Goals as goal

pub loop-i-preserved : goal.loop-i-preserved
loop-i-preserved c =
    let i = c.loop-i.i in
    let same : c.get.result ≡ c.get-in-loop-i.result =
    same_by_test c.get.result c.get-in-loop-i.result (sym c.if-ne.false ∙ c.ne.ensures) in
    take_next c.args.samples.now i c.get.result c.get.ensures
    ∙ (λ j. c.loop-i.invariant j ++ same j ∷ [])
    ∙ sym (take_next c.args.others.now i c.get-in-loop-i.result c.get-in-loop-i.ensures)

pub returns : goal.returns
returns c = λ yes.
    sym (take_whole c.args.samples.now c.loop-i.i (omega arith))
    ∙ c.loop-i.invariant
    ∙ take_whole c.args.others.now c.loop-i.i (omega arith)
