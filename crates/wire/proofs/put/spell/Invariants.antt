use Rattle.std.proofs.Common.{◌+◌, ◌≡◌, ◌++◌, ℕ, suc, ◌<◌, take}
use Rattle.wire.specs.Spelling.{groups, uvarint}
use Rattle.wire.proofs.Laws.{limit}
use Rattle.wire.proofs.put.spell.Given as goal

abbrev pub invariant-loop-left : goal.invariant-loop-left
invariant-loop-left l =
    (k : ℕ) × (l.len + k ≡ 9) × (l.left < limit k)
    × (take l.len l.bytes ++ groups (suc k) l.left ≡ uvarint l.n)

abbrev pub decreases-loop-left : goal.decreases-loop-left
decreases-loop-left l = l.left
