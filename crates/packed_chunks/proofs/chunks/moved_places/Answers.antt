use Rattle.std.proofs.Common.{◌∙◌, ◌++◌, ◌∷◌, [], List, refl, ap, sym, arith, get_or}
use Rattle.packed_chunks.specs.declared.chunks.Placed.{Placed}
use Rattle.packed_chunks.specs.Chunks.{moved}
use Rattle.packed_chunks.proofs.Moving.{moved_next, nowhere}
use Rattle.packed_chunks.proofs.chunks.moved_places.Goals as goal

pub loop-i-preserved : goal.loop-i-preserved
loop-i-preserved c =
    let p : Placed = get_or c.args.places.now c.loop-i.i nowhere in
    c.in_ok-push.ensures.items
    ∙ ap (λ (l : List Placed). l ++ moved c.args.by p ∷ []) c.loop-i.invariant
    ∙ sym (moved_next c.args.by c.args.places.now c.loop-i.i p nowhere (omega arith) refl)
