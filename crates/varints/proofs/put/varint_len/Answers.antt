use Rattle.std.proofs.Common.{◌≡◌, ℕ, zero, suc, ◌+◌, ◌/◌, ◌<◌, ◌≤◌, length, ap, arith}
use Rattle.wire.specs.Spelling.{groups, uvarint}
use Rattle.varints.proofs.Laws.{limit, groups_last, groups_more}
use Rattle.varints.proofs.put.varint_len.Goals as goal

next : (k n len whole : ℕ) → 128 ≤ n → n < limit k → len + k ≡ 10 → len + length (groups (suc k) n) ≡ whole
    → (j : ℕ) × (len + 1 + j ≡ 10) × (n / 128 < limit j) × (len + 1 + length (groups (suc j) (n / 128)) ≡ whole)
next zero n len whole le lt at h = absurd (omega arith)
next (suc k) n len whole le lt at h =
    let e = ap (length {A = ℕ}) (groups_more (suc k) n le) in
    (k, omega arith, omega arith, omega arith)

pub loop-left-init : goal.loop-left-init
unfolding uvarint
loop-left-init c = (9, omega arith, omega arith, omega arith)

pub loop-left-preserved : goal.loop-left-preserved
loop-left-preserved c =
    let l = c.loop-left in
    next l.invariant.0 l.left l.len _ c.loop-left-test.true l.invariant.2 l.invariant.1 l.invariant.3

pub returns-clause-exact : goal.returns-clause-exact
returns-clause-exact c =
    let l = c.loop-left in
    let e = ap (length {A = ℕ}) (groups_last l.invariant.0 l.left (omega arith)) in
    let h = l.invariant.3 in
    omega arith
