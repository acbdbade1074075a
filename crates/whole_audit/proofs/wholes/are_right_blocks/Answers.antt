use Rattle.std.proofs.Common.{◌<◌, length, sym, ◌∙◌, arith}
use Rattle.labels.proofs.Times.{true_not_false}
use Rattle.whole_audit.specs.Wholes.{IsRightOf}
use Rattle.whole_audit.proofs.Right.{zip_at, zip_next}
use Rattle.whole_audit.proofs.wholes.are_right_blocks.Goals as goal

pub returns-then-not-branch : goal.returns-then-not-branch
returns-then-not-branch c = (
  λ h. absurd (true_not_false (sym h)),
  λ all. absurd (true_not_false
      (sym (c.in_ok-is_right.ensures.1 (zip_at (IsRightOf c.args.query.now) c.args.blocks.now
      c.args.parts.now c.loop-at.at c.index-blocks-at.result c.index-parts-at.result all
      c.loop-at-test.true c.index-blocks-at.is c.index-parts-at.is))
      ∙ c.if-not-branch.true)),
)

pub loop-at-preserved : goal.loop-at-preserved
loop-at-preserved c =
    let below : c.loop-at.at < length c.args.parts.now = omega arith in
    zip_next (IsRightOf c.args.query.now) c.args.blocks.now c.args.parts.now c.loop-at.at
    c.index-blocks-at.result c.index-parts-at.result c.loop-at-test.true below
    c.index-blocks-at.is c.index-parts-at.is c.loop-at.invariant
    (c.in_ok-is_right.ensures.0 c.if-not-branch.false)
