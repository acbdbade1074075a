use Rattle.std.proofs.Common.{ap, ◌∙◌}
use Rattle.std.specs.List.{filter_map}
use Rattle.head.specs.Shown.{part_of}
use Rattle.block_search.specs.Answering.{row_of_interval}
use Rattle.block_search.proofs.Sorted.{sorted_answer}
use Rattle.block_search.proofs.many_rows.search_head.Goals as goal

pub returns-clause-answers : goal.returns-clause-answers
returns-clause-answers g c =
    let query = c.args.query.now in
    let head = c.args.head.now in
    let sort = c.in_ok-sort_rows.ensures in
    sorted_answer query (part_of head) head.is_part _ c.in_ok-rows.rows.items c.in_ok-cover.ensures
    (c.in_ok-rows.ensures ∙ ap (filter_map (row_of_interval query.from query.to (part_of head)))
    c.as_slice.ensures.value) sort.moved sort.sorted sort.stable

pub returns-clause-is_part : goal.returns-clause-is_part
returns-clause-is_part g c = c.args.head.now.is_part
