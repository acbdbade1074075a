use Rattle.std.proofs.Common.{◌+◌, rules, arith, refl, get_or}
use Rattle.std.specs.Prelude.{◌≤ℤ◌, ◌<ℤ◌, FitsSigned}
use Rattle.std.proofs.lemmas.Int.{ints, to_z-of_z}
use mir.Syntax.{w64}
use mir.Val.{to_z, of_z}
use Rattle.join_schedule.proofs.Sums.{no_block, none_yet, sums_more}
use Rattle.join_schedule.proofs.Sums.{not_ended, too_much, all_summed}
use Rattle.join_schedule.proofs.blocks.joined_samples.Goals as goal

pub loop-block-init : goal.loop-block-init
loop-block-init c = none_yet c.args.limits.now (to_z w64 (of_z w64 c.args.floor)) c.args.blocks.now

pub returns-then-block-floor-clause-none : goal.returns-then-block-floor-clause-none
returns-then-block-floor-clause-none c =
    let block = get_or c.args.blocks.now c.loop-block.block-index no_block in
    let fits : FitsSigned w64 block.to = search rules in
    let late : c.args.floor <ℤ block.to = grind (arith, ints, c.if-block-floor.true) in
    not_ended c.args.limits.now c.args.floor c.args.blocks.now c.loop-block.block-index no_block
    c.loop-block-test.true late

pub returns-in_err-sums-clause-none : goal.returns-in_err-sums-clause-none
returns-in_err-sums-clause-none c =
    let l = c.loop-block in
    rw (c.from_residual.ensures, ← to_z-of_z w64 c.args.floor c.ranges.floor)
    (too_much c.args.limits.now (to_z w64 (of_z w64 c.args.floor)) c.args.blocks.now l.block-index no_block
    l.sums.samples l.sums.series l.sums.bytes c.loop-block-test.true l.invariant
    c.in_err-sums.ensures.none)

pub loop-block-preserved : goal.loop-block-preserved
loop-block-preserved c =
    let l = c.loop-block in
    let s = c.in_ok-sums.sums in
    let e = c.in_ok-sums.ensures in
    let block = get_or c.args.blocks.now l.block-index no_block in
    let fits : FitsSigned w64 block.to = search rules in
    let floor = to_z w64 (of_z w64 c.args.floor) in
    let ended : block.to ≤ℤ floor = grind (arith, ints, c.if-block-floor.false) in
    sums_more c.args.limits.now floor c.args.blocks.now l.block-index (l.block-index + 1)
    no_block l.sums.samples l.sums.series l.sums.bytes s.samples s.series s.bytes
    c.loop-block-test.true refl l.invariant ended e.samples.0 e.samples.1 e.series.0 e.series.1
    e.bytes.0 e.bytes.1

pub returns-clause-some : goal.returns-clause-some
returns-clause-some c =
    let l = c.loop-block in
    rw (← to_z-of_z w64 c.args.floor c.ranges.floor)
    (all_summed c.args.limits.now (to_z w64 (of_z w64 c.args.floor)) c.args.blocks.now
    l.block-index l.sums.samples l.sums.series l.sums.bytes c.loop-block-test.false l.invariant)
