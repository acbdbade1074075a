use Rattle.std.proofs.Common.{ℤ, ◌∙◌, sym, subst}
use Rattle.block_outputs.specs.Tiles.{AreTilesUpTo}
use Rattle.block_outputs.proofs.tiles.tile.Goals as goal

pub loop-end-preserved : goal.loop-end-preserved
loop-end-preserved c =
    let l = c.loop-end in
    let next = c.in_ok-left.ensures in
    let whole = c.args.whole in
    record {
      order = next.order;
      last = next.last ∙ l.invariant.last;
      tiles =
          subst (λ (to : ℤ). AreTilesUpTo whole.from c.in_ok-left.left.from to
          c.push_tile.new.tiles.items)
          l.invariant.last
          (next.tiles whole.from
          (subst (λ (to : ℤ). AreTilesUpTo whole.from l.left.from to l.tiles.items)
          (sym l.invariant.last) l.invariant.tiles));
    }
