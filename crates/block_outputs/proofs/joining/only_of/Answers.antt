use Rattle.std.proofs.Common.{List, subst, arith}
use Rattle.std.specs.Prelude.{IfOk}
use Rattle.labels.specs.Rows.{Row}
use Rattle.block_outputs.specs.Joined.{IsJoined}
use Rattle.block_outputs.proofs.Lists.{the_only}
use Rattle.block_outputs.proofs.joining.only_of.Goals as goal

pub returns-in-Some : goal.returns-in-Some
returns-in-Some c =
    subst (λ (ls : List (List Row)). IfOk c.part_of.result (λ part. IsJoined ls part))
    (the_only c.args.lists.items c.pop.new.self.items c.in-Some.rows c.in-Some.ensures.items
    (omega (arith, c.args.lists.ok.0, c.requires)))
    c.part_of.ensures
