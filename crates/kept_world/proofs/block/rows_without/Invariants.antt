use Rattle.std.proofs.Common.{◌≡◌, ◌++◌}
use Rattle.std.specs.Vec.Iter.{into_iter_items}
use Rattle.matchers.specs.Satisfies.{satisfies_all}
use Rattle.kept_world.specs.States.{struck_part}
use Rattle.kept_world.proofs.block.rows_without.Given as goal

abbrev pub invariant-loop-reference : goal.invariant-loop-reference
invariant-loop-reference l = record {
  struck : struck_part (satisfies_all l.fn.choice.matchers) l.fn.choice.from l.fn.choice.to l.fn.rows.items
      ≡ l.left.items ++ struck_part (satisfies_all l.fn.choice.matchers) l.fn.choice.from l.fn.choice.to (into_iter_items l.reference-iterator);
  same : l.choice ≡ l.fn.choice;
}
