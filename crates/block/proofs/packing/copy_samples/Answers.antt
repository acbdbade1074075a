use Rattle.std.proofs.Common.{ℤ, List, sym, ◌∙◌, ap, ◌++◌, ◌∷◌, []}
use Rattle.block.proofs.Steps.{take_next}
use Rattle.block.proofs.packing.copy_samples.Goals as goal

pub loop-i-preserved : goal.loop-i-preserved
loop-i-preserved c =
    c.in_ok-push.ensures.items
    ∙ ap (λ (front : List (ℤ × ℤ)). front ++ c.get.result ∷ []) c.loop-i.invariant
    ∙ sym (take_next c.args.samples.now c.loop-i.i c.get.result c.get.ensures)
