use Rattle.std.proofs.Common.{◌+◌, ◌≡◌, ◌<◌, length, ℕ, suc}
use Rattle.wire.specs.Spelling.{groups, uvarint}
use Rattle.varints.proofs.Laws.{limit}
use Rattle.varints.proofs.put.varint_len.Given as goal

abbrev pub invariant-loop-left : goal.invariant-loop-left
invariant-loop-left l =
    (k : ℕ) × (l.len + k ≡ 10) × (l.left < limit k)
    × (l.len + length (groups (suc k) l.left) ≡ length (uvarint l.n) + 1)

abbrev pub decreases-loop-left : goal.decreases-loop-left
decreases-loop-left l = l.left
