use Rattle.std.proofs.Common.{List, [], sym, ap, subst, ◌∙◌}
use Rattle.labels.specs.Rows.{Row, AreRows}
use Rattle.series_merge.specs.Merging.{laid_each, row_lists}
use Rattle.block_outputs.specs.Joined.{lists_in, IsJoined}
use Rattle.block_outputs.proofs.Lists.{part_of_rows}
use Rattle.block_outputs.proofs.joining.merged.Goals as goal

pub returns-in-Some : goal.returns-in-Some
returns-in-Some c =
    let rows = c.in_ok-rows.rows.items in
    let p = part_of_rows rows c.in-Some.part (sym c.in-Some.ensures) in
    subst (λ (rs : List Row). IsJoined (lists_in c.args.lists.items) rs) p.1
    (subst (λ (ls : List (List Row)). AreRows rows (laid_each [] ls))
    (ap row_lists c.as_slice.ensures.value ∙ c.in_ok-answers.ensures) c.in_ok-rows.ensures)
