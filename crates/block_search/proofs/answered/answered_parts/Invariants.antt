use Rattle.std.proofs.Common.{◌≡◌, ◌-◌, ◌++◌, reverse}
use Rattle.block_search.proofs.Told.{told_from}
use Rattle.block_search.proofs.answered.answered_parts.Given as goal

-- what was told, and what is to be told of the blocks to come and of the head
abbrev pub invariant-loop-number : goal.invariant-loop-number
invariant-loop-number l =
    l.parts.items ++ told_from l.number (l.count - l.number) (reverse l.left.items)
    ≡ told_from 0 l.count l.fn.answers.items
