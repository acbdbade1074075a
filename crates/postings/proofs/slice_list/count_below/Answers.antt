use Rattle.std.proofs.Common.{ltb, rules}
use Rattle.std.proofs.lemmas.List.Sorted.{IsPartitionPoint-from_clause, IsPartitionedBy-ltb, IsNonDecreasingBy-take}
use Rattle.postings.proofs.Search.{rises_by, below_point, above_point}
use Rattle.postings.proofs.slice_list.count_below.Goals as goal

pub returns-clause-below : goal.returns-clause-below
returns-clause-below c =
    let parted = IsPartitionedBy-ltb (λ x. x) _ c.args.target (IsNonDecreasingBy-take (λ x. x) _ c.args.list.now (rises_by c.args.list.now c.requires)) in
    let point = IsPartitionPoint-from_clause (λ x. ltb x c.args.target) _ _ c.partition_point.ensures.partitioned parted (λ a r q k. search rules) in
    below_point c.args.list.now c.place_past.result c.partition_point.result c.args.target c.place_past.ensures.within c.partition_point.ensures.bound point

pub returns-clause-above : goal.returns-clause-above
returns-clause-above c =
    let parted = IsPartitionedBy-ltb (λ x. x) _ c.args.target (IsNonDecreasingBy-take (λ x. x) _ c.args.list.now (rises_by c.args.list.now c.requires)) in
    let point = IsPartitionPoint-from_clause (λ x. ltb x c.args.target) _ _ c.partition_point.ensures.partitioned parted (λ a r q k. search rules) in
    above_point c.args.list.now c.place_past.result c.partition_point.result c.args.target c.place_past.ensures.within c.partition_point.ensures.bound point c.place_past.ensures.above
