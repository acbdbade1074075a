use Rattle.std.proofs.Common.{◌≡◌, ◌++◌, length}
use Rattle.std.specs.List.{filter}
use Rattle.block.specs.Fewer.{is_among}
use Rattle.head.proofs.selection.references_in_both.Given as goal

-- what both have is what was found, and what both have from their places on
abbrev pub invariant-loop-reference : goal.invariant-loop-reference
invariant-loop-reference g l =
    l.found.items
    ++ filter (is_among (g.B.Postings.remaining l.second)) (g.A.Postings.remaining l.first)
    ≡ filter (is_among (g.B.Postings.remaining l.initial.second))
    (g.A.Postings.remaining l.initial.first)

abbrev pub decreases-loop-reference : goal.decreases-loop-reference
decreases-loop-reference g l = length (g.A.Postings.remaining l.first)
