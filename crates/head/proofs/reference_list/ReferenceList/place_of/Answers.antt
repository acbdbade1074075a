use Rattle.std.proofs.Common.{ℕ, ◌+◌, ◌-◌, ◌/◌, sym, ◌∙◌, arith}
use Rattle.head.proofs.Pieces.{passed}
use Rattle.head.proofs.reference_list.ReferenceList.place_of.Goals as goal

pub loop-start-preserved-then-lt : goal.loop-start-preserved-then-lt
loop-start-preserved-then-lt c =
    let middle : ℕ = c.loop-start.start + (c.loop-start.end - c.loop-start.start) / 2 in
    passed c.args.self.now.references.now c.args.self.now.place c.args.target c.loop-start.start c.loop-start.end middle c.at.result c.args.self.now.increasing c.loop-start.invariant (omega arith)
    (omega (arith, c.loop-start-test.true)) c.at.ensures (sym c.lt.ensures ∙ c.if-lt.true)
