use Rattle.std.proofs.Common.{take}
use Rattle.block_search.proofs.InTurn.{AreAt}
use Rattle.block_search.proofs.parts.search_one_by_one.Given as goal

abbrev pub invariant-loop-place : goal.invariant-loop-place
invariant-loop-place l = AreAt l.query l.snapshot (take l.place-index l.place-items)
    l.answers.items
