use Rattle.std.proofs.Common.{rules}
use Rattle.std.specs.Ordering.{is_lt}
use Rattle.std.proofs.lemmas.List.Sorted.{IsPartitionPoint-from_clause}
use Rattle.labels.specs.Labels.{text_cmp}
use Rattle.labels.proofs.Texts.{text_total}
use Rattle.block_writer.proofs.Held.{parted, place_is}
use Rattle.block_writer.proofs.symbols.number_of.Goals as goal

pub returns : goal.returns
returns c =
    place_is (λ x. x.now) text_cmp c.args.text.now c.args.symbols.now c.partition_point.result
    c.partition_point.ensures.bound
    (IsPartitionPoint-from_clause (λ x. is_lt (text_cmp x.now c.args.text.now)) c.args.symbols.now
    c.partition_point.result c.partition_point.ensures.partitioned
    (parted (λ x. x.now) text_cmp text_total c.args.text.now c.args.symbols.now c.requires)
    (λ a r f' k. search rules))
