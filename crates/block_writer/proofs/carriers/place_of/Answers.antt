use Rattle.std.proofs.Common.{rules}
use Rattle.std.specs.Ordering.{is_lt}
use Rattle.std.proofs.lemmas.List.Sorted.{IsPartitionPoint-from_clause}
use Rattle.labels.specs.Labels.{pair_cmp}
use Rattle.labels.proofs.Texts.{pair_total}
use Rattle.block_writer.proofs.Held.{parted, place_is}
use Rattle.block_writer.proofs.carriers.place_of.Goals as goal

pub returns : goal.returns
returns c =
    place_is (λ x. (x.0.now, x.1.now)) pair_cmp (c.args.pair.0.now, c.args.pair.1.now)
    c.args.pairs.now c.partition_point.result c.partition_point.ensures.bound
    (IsPartitionPoint-from_clause (λ x. is_lt (pair_cmp (x.0.now, x.1.now) (
      c.args.pair.0.now,
      c.args.pair.1.now,
    ))) c.args.pairs.now c.partition_point.result c.partition_point.ensures.partitioned
    (parted (λ x. (x.0.now, x.1.now)) pair_cmp pair_total (c.args.pair.0.now, c.args.pair.1.now)
    c.args.pairs.now c.requires)
    (λ a r f' k. search rules))
