use Rattle.std.proofs.Common.{◌∙◌, not, take, rules}
use Rattle.std.specs.Prelude.{int_lt}
use Rattle.std.proofs.lemmas.List.{take_rest}
use Rattle.std.proofs.lemmas.List.Sorted.{IsPartitionPoint-from_clause}
use Rattle.block.proofs.Meeting.{begins_parted, ends_parted, in_turn_take, met_is}
use Rattle.block.proofs.Sourcing.{side_by_side}
use Rattle.block.proofs.samples.meeting_chunks.Goals as goal

pub returns-clause-met : goal.returns-clause-met
returns-clause-met c =
    let cs = c.args.series.now in
    let from = c.args.times.from in
    let to = c.args.times.to in
    let j = c.partition_point-end.result in
    let i = c.partition_point-start.result in
    let begins =
    IsPartitionPoint-from_clause (λ x. not (int_lt to x.mint)) cs j
    c.partition_point-end.ensures.partitioned (begins_parted to cs c.requires)
    (λ a r f' k. search rules) in
    let ends =
    IsPartitionPoint-from_clause (λ x. int_lt x.maxt from) (take j cs) i
    c.partition_point-start.ensures.partitioned
    (ends_parted from (take j cs) (in_turn_take cs j c.requires)) (λ a r f' k. search rules) in
    take_rest (take j cs) i
    ∙ met_is from to cs i j c.partition_point-end.ensures.bound
    c.partition_point-start.ensures.bound begins ends

pub returns-clause-place : goal.returns-clause-place
returns-clause-place c =
    side_by_side c.args.series.now c.partition_point-start.result c.partition_point-end.result
    c.partition_point-end.ensures.bound c.partition_point-start.ensures.bound
