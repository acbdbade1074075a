use Rattle.std.proofs.lemmas.Result.{IfOk-weaker}
use Rattle.std.specs.Int.{w64}
use Rattle.std.proofs.lemmas.Int.{to_z-of_z}
use Rattle.tombstones.proofs.Joins.{joined_at, joined_all}
use Rattle.tombstones.proofs.tombstones.join.Goals as goal

pub returns-clause-ok : goal.returns-clause-ok
returns-clause-ok c = IfOk-weaker c.put_in_order.result _ _ (λ t moved r x.
    joined_at c.args.deletions.now c.in_ok-deletions.deletions.items t c.args.references.now _ _
    c.args.from c.args.to r x (to_z-of_z w64 c.args.from c.ranges.from)
    (to_z-of_z w64 c.args.to c.ranges.to) c.in_ok-deletions.ensures moved) c.put_in_order.ensures

pub returns-clause-all : goal.returns-clause-all
returns-clause-all c = IfOk-weaker c.put_in_order.result _ _ (λ t moved.
    joined_all c.args.deletions.now c.in_ok-deletions.deletions.items t c.args.references.now _ _
    c.args.from c.args.to (to_z-of_z w64 c.args.from c.ranges.from)
    (to_z-of_z w64 c.args.to c.ranges.to) c.in_ok-deletions.ensures moved) c.put_in_order.ensures
