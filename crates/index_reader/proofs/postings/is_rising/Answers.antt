use Rattle.std.proofs.Common.{◌≡◌, ◌+◌, ◌-◌, sym, arith}
use Rattle.index_reader.proofs.WordsAt.{length-refs}
use Rattle.index_reader.specs.References.{references_in}
use Rattle.std.specs.Prelude.{nat_lt}
use Rattle.index_reader.proofs.Rising.{next, at_end}
use Rattle.index_reader.proofs.postings.is_rising.Goals as goal

pub returns-then-not-is_less : goal.returns-then-not-is_less
returns-then-not-is_less c =
    let n =
    next nat_lt (references_in c.args.bytes.now) c.loop-at.at _ _ c.is_less.result _
    c.loop-at.invariant.0 c.word_at.ensures c.word_at-in-loop-at.ensures c.is_less.ensures
    c.loop-at.invariant.1 in
    sym (rw c.if-not-is_less.true at n)

pub loop-at-preserved : goal.loop-at-preserved
loop-at-preserved c =
    let n =
    next nat_lt (references_in c.args.bytes.now) c.loop-at.at _ _ c.is_less.result _
    c.loop-at.invariant.0 c.word_at.ensures c.word_at-in-loop-at.ensures c.is_less.ensures
    c.loop-at.invariant.1 in
    let e : c.loop-at.at + 1 - 1 ≡ c.loop-at.at = omega arith in
    (omega arith, rw e (sym (rw c.if-not-is_less.false at n)))

pub returns : goal.returns
returns c = at_end nat_lt (references_in c.args.bytes.now) c.loop-at.at _ (omega (
  arith,
  length-refs c.args.bytes.now,
)) c.loop-at.invariant.1
