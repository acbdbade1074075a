use Rattle.std.specs.Prelude.{◌≡◌, ◌≤ℤ◌}
use Rattle.block_outputs.specs.Tiles.{AreTilesUpTo}
use Rattle.block_outputs.proofs.tiles.tile.Given as goal

abbrev pub invariant-loop-end : goal.invariant-loop-end
invariant-loop-end l = record {
  order : l.left.from ≤ℤ l.left.to;
  last : l.left.to ≡ l.fn.whole.to;
  tiles : AreTilesUpTo l.fn.whole.from l.left.from l.fn.whole.to l.tiles.items;
}
