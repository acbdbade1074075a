use Rattle.std.proofs.Common.{sym, ◌∙◌, ◌++◌, ◌∷◌, [], arith}
use Rattle.block.proofs.Steps.{take_next, take_whole}
use Rattle.block.proofs.comparing.are_same_chunks.Goals as goal

pub loop-n-preserved : goal.loop-n-preserved
loop-n-preserved c =
    let n = c.loop-n.n in
    let same = c.are_same_samples.ensures c.if-not-are_same_samples.false in
    take_next c.args.chunks.now n c.get.result c.get.ensures
    ∙ (λ j. c.loop-n.invariant j ++ same j ∷ [])
    ∙ sym (take_next c.args.others.now n c.get-in-loop-n.result c.get-in-loop-n.ensures)

pub returns : goal.returns
returns c = λ yes.
    sym (take_whole c.args.chunks.now c.loop-n.n (omega arith))
    ∙ c.loop-n.invariant
    ∙ take_whole c.args.others.now c.loop-n.n (omega arith)
