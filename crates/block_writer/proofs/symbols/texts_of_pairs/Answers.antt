use Rattle.std.proofs.Common.{ℕ, List, [], ◌∷◌, arith}
use Rattle.std.proofs.lemmas.List.{length-map}
use Rattle.labels.specs.Pairs.{texts_of}
use Rattle.block_writer.proofs.Found.{pair_texts_on}
use Rattle.block_writer.proofs.Walking.{flat_done}
use Rattle.block_writer.proofs.symbols.texts_of_pairs.Goals as goal

pub loop-i-preserved : goal.loop-i-preserved
loop-i-preserved c =
    pair_texts_on c.args.pairs.now c.loop-i.i _ c.loop-i.found.items _ _ _ (omega arith)
    c.in_ok-push.ensures.items c.in_ok-push-2.ensures.items c.loop-i.invariant

pub returns : goal.returns
returns c =
    flat_done (λ (p : List ℕ × List ℕ). p.0 ∷ p.1 ∷ []) _ (texts_of c.args.pairs.now) c.loop-i.i _
    (omega (arith, length-map {B = List ℕ × List ℕ} c.args.pairs.now (λ p. (p.0.now, p.1.now))))
    c.loop-i.invariant
