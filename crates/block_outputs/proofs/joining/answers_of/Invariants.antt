use Rattle.std.proofs.Common.{◌≡◌, ◌++◌, reverse, vec_len}
use Rattle.series_merge.specs.Merging.{row_lists}
use Rattle.block_outputs.specs.Joined.{lists_in}
use Rattle.block_outputs.proofs.joining.answers_of.Given as goal

abbrev pub invariant-loop-rows : goal.invariant-loop-rows
invariant-loop-rows l =
    lists_in l.lists.items ++ row_lists (reverse l.answers.items) ≡ lists_in l.fn.lists.items

abbrev pub decreases-loop-rows : goal.decreases-loop-rows
decreases-loop-rows l = vec_len l.lists
