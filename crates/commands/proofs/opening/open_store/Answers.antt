use Rattle.std.proofs.Common.{map, arith}
use Rattle.head.specs.Blocks.{part_in}
use Rattle.commands.proofs.Openings.{as_many}
use Rattle.commands.proofs.opening.open_store.Goals as goal

pub returns-clause-ok : goal.returns-clause-ok
returns-clause-ok g c =
    let same = as_many _ _ _ c.in_ok-blocks.ensures.ok in
    record {
      blocks = map part_in c.in_ok-blocks.blocks.items;
      opened = c.in_ok-blocks.ensures.ok;
      few = omega (arith, same, c.in_ok-blocks.ensures.few);
      is = c.in_ok-opening.ensures;
    }
