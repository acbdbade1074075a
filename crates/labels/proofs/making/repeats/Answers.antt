use Rattle.std.proofs.Common.{◌+◌, ◌-◌, ◌<◌, length, sym, inl, inr, arith}
use Rattle.std.proofs.lemmas.Bool.{cases_lt}
use Rattle.labels.specs.Pairs.{pairs_of}
use Rattle.labels.proofs.Search.{none}
use Rattle.labels.proofs.NamedPairs.{length-pairs_of, same_here, differ_here, repeats-by_name, IsByName-from_sort}
use Rattle.labels.proofs.making.repeats.Goals as goal

pub returns-then-eq-clause-value : goal.returns-then-eq-clause-value
returns-then-eq-clause-value c =
    let at = c.loop-at.at in
    let inside : at < length (pairs_of c.args.pairs.now) = omega (arith, c.loop-at-test.true, length-pairs_of c.args.pairs.now) in
    sym (same_here (pairs_of c.args.pairs.now) (at - 1) at _ _ _ (omega arith) inside (c.name_at.ensures none) (c.name_at-in-loop-at.ensures none) c.eq.ensures c.if-eq.true)

pub loop-at-preserved : goal.loop-at-preserved
loop-at-preserved c = λ k d l.
    elim (cases_lt (k + 1) c.loop-at.at) [
      | inl before ↦ c.loop-at.invariant k d before
      | inr from ↦ differ_here (pairs_of c.args.pairs.now) k (c.loop-at.at - 1) c.loop-at.at d _ _ _ (omega arith) (omega arith) (c.name_at.ensures d) (c.name_at-in-loop-at.ensures d) c.eq.ensures c.if-eq.false
    ]

pub returns-clause-by_name : goal.returns-clause-by_name
returns-clause-by_name c = IsByName-from_sort (pairs_of c.args.pairs.now) c.requires (λ k d inside. c.loop-at.invariant k d (omega (arith, inside, c.loop-at-test.false, length-pairs_of c.args.pairs.now)))

pub returns-clause-value : goal.returns-clause-value
returns-clause-value c = sym (repeats-by_name (pairs_of c.args.pairs.now) (returns-clause-by_name c))
