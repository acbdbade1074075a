use Rattle.std.proofs.Common.{sym, ◌∙◌, ap, ◌++◌, ◌∷◌, []}
use Rattle.chunk_reader.proofs.Rising.{take_next}
use Rattle.chunk_reader.proofs.samples.Samples.to_vec.Goals as goal

pub loop-i-preserved : goal.loop-i-preserved
loop-i-preserved c =
    c.in_ok-push.ensures.items
    ∙ ap (λ front. front ++ c.get.result ∷ []) c.loop-i.invariant
    ∙ sym (take_next c.args.self.now c.loop-i.i c.get.result c.get.ensures)
