use Rattle.std.proofs.Common.{◌≡◌, ◌++◌, map}
use Rattle.std.specs.Vec.Iter.{into_iter_items}
use Rattle.matchers.specs.Satisfies.{satisfies_all}
use Rattle.kept_world.specs.States.{struck_part}
use Rattle.kept_world.proofs.block.blocks_without.Given as goal

abbrev pub invariant-loop-block : goal.invariant-loop-block
invariant-loop-block l = record {
  struck : map (struck_part (satisfies_all l.fn.choice.matchers) l.fn.choice.from l.fn.choice.to) l.fn.blocks.items
      ≡ l.left.items ++ map (struck_part (satisfies_all l.fn.choice.matchers) l.fn.choice.from l.fn.choice.to) (into_iter_items l.block-iterator);
  same : l.choice ≡ l.fn.choice;
}
