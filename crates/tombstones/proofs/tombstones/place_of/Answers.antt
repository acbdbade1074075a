use Rattle.std.proofs.Common.{ltb, ltb-true, ltb-false, arith, rules}
use Rattle.std.proofs.lemmas.List.Sorted.{IsPartitionPoint-from_clause, IsPartitionedBy-ltb}
use Rattle.tombstones.proofs.Begun.{by_reference}
use Rattle.tombstones.proofs.tombstones.place_of.Goals as goal

pub returns-clause-below : goal.returns-clause-below
returns-clause-below c k d l =
    let point =
    IsPartitionPoint-from_clause (λ x. ltb x.reference c.args.reference) c.args.deletions.now
    c.partition_point.result c.partition_point.ensures.partitioned
    (IsPartitionedBy-ltb (λ x. x.reference) c.args.deletions.now c.args.reference
    (by_reference c.args.deletions.now c.requires)) (λ a r f k. search rules) in
    ltb-true _ _ (point.0 k d (omega arith) l)

pub returns-clause-above : goal.returns-clause-above
returns-clause-above c k d l m =
    let point =
    IsPartitionPoint-from_clause (λ x. ltb x.reference c.args.reference) c.args.deletions.now
    c.partition_point.result c.partition_point.ensures.partitioned
    (IsPartitionedBy-ltb (λ x. x.reference) c.args.deletions.now c.args.reference
    (by_reference c.args.deletions.now c.requires)) (λ a r f k. search rules) in
    ltb-false _ _ (point.1 k d l m)
