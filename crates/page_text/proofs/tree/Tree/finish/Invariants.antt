use Rattle.std.proofs.Common.{◌≡◌, ◌+◌, ◌≤◌, length, reverse, Some}
use Rattle.page_text.specs.Nesting.{left_open}
use Rattle.page_text.proofs.tree.Tree.finish.Given as goal

abbrev pub invariant-loop-tag : goal.invariant-loop-tag
invariant-loop-tag l =
    (left_open l.pieces.items ≡ Some (reverse l.begun.items))
    × (length l.pieces.items + length l.begun.items ≤ 4000000)

abbrev pub decreases-loop-tag : goal.decreases-loop-tag
decreases-loop-tag l = length l.begun.items
