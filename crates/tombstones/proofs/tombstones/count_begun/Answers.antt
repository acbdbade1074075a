use Rattle.std.proofs.Common.{arith, rules}
use Rattle.std.proofs.lemmas.List.Sorted.{IsPartitionPoint-from_clause}
use Rattle.tombstones.specs.Order.{begins_by}
use Rattle.tombstones.proofs.Begun.{parted}
use Rattle.tombstones.proofs.tombstones.count_begun.Goals as goal

pub returns-clause-begun : goal.returns-clause-begun
returns-clause-begun c k d l =
    (IsPartitionPoint-from_clause (begins_by c.args.reference c.args.t) c.args.deletions.now
    c.partition_point.result c.partition_point.ensures.partitioned (parted c.args.deletions.now
    c.args.reference c.args.t c.requires) (λ a r f k. search rules)).0 k d (omega arith) l

pub returns-clause-not_begun : goal.returns-clause-not_begun
returns-clause-not_begun c k d l m =
    (IsPartitionPoint-from_clause (begins_by c.args.reference c.args.t) c.args.deletions.now
    c.partition_point.result c.partition_point.ensures.partitioned (parted c.args.deletions.now
    c.args.reference c.args.t c.requires) (λ a r f k. search rules)).1 k d l m
