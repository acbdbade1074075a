use Rattle.std.proofs.Common.{◌<◌, ◌≤◌, arith}
use Rattle.std.specs.Prelude.{◌≤ℤ◌}
use Rattle.std.proofs.lemmas.Bool.{iff_false}
use Rattle.join_schedule.specs.Blocks.{bytes_in}
use Rattle.join_schedule.proofs.Sums.{no_block}
use Rattle.join_schedule.proofs.Ends.{ge_through, IsEnough, none_yet, best_next, least_is}
use Rattle.join_schedule.proofs.Ends.{none_is_enough}
use Rattle.join_schedule.proofs.expiring.expiry_by_size.Goals as goal

pub loop-block-init : goal.loop-block-init
loop-block-init c =
    none_yet (λ s t. t ≤ℤ s) ge_through (IsEnough c.args.most c.args.blocks.now) c.args.blocks.now

pub loop-block-preserved : goal.loop-block-preserved
loop-block-preserved c =
    best_next (λ s t. t ≤ℤ s) ge_through (IsEnough c.args.most c.args.blocks.now)
    c.args.blocks.now c.loop-block.block-index no_block c.loop-block.least
    c.sufficient_end.result c.loop-block-test.true c.loop-block.invariant
    c.sufficient_end.ensures.end c.sufficient_end.ensures.some c.sufficient_end.ensures.none
    c.earlier-least.result c.earlier-least.ensures.none c.earlier-least.ensures.either
    c.earlier-least.ensures.earlier

pub returns-clause-least : goal.returns-clause-least
returns-clause-least c =
    least_is c.args.most c.args.blocks.now c.loop-block.block-index c.loop-block.least
    c.loop-block-test.false c.loop-block.invariant

pub returns-clause-none : goal.returns-clause-none
returns-clause-none c =
    let no : (bytes_in c.args.blocks.now ≤ c.args.most → ⊥) =
    iff_false c.have_at_most.ensures c.if-have_at_most.false in
    let more : c.args.most < bytes_in c.args.blocks.now = omega (arith, no) in
    none_is_enough c.args.most c.args.blocks.now c.loop-block.block-index c.loop-block.least
    c.loop-block-test.false more c.loop-block.invariant
