use Rattle.std.proofs.Common.{◌≡◌, arith}
use Rattle.std.proofs.lemmas.List.Elements.{All-more}
use Rattle.join_schedule.specs.declared.blocks.Shape.{Shape}
use Rattle.join_schedule.proofs.Sums.{no_block}
use Rattle.block_upkeep.proofs.emptied.count_emptied.Goals as goal

pub loop-at-preserved : goal.loop-at-preserved
loop-at-preserved c =
    All-more (λ (b : Shape). b.samples ≡ 0) c.args.blocks.now c.loop-at.at no_block
    c.loop-at-test.true c.loop-at.invariant (omega (arith, c.if-block-gt0.false))
