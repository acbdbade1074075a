use Rattle.std.specs.Prelude.{◌≤ℤ◌}
use Rattle.std.proofs.lemmas.Int.{to_z-of_z}
use mir.Syntax.{w64}
use mir.Val.{to_z, of_z}
use Rattle.join_schedule.specs.Expiry.{IsExpired}
use Rattle.join_schedule.proofs.Sums.{no_block}
use Rattle.join_schedule.proofs.Ends.{le_through, none_yet, best_next, last_is, none_expired}
use Rattle.join_schedule.proofs.expiring.expiry.Goals as goal

pub loop-block-init : goal.loop-block-init
loop-block-init c =
    let floor = to_z w64 (of_z w64 c.args.floor) in
    let now = to_z w64 (of_z w64 c.args.now) in
    none_yet (λ s t. s ≤ℤ t) le_through (IsExpired floor now c.args.keep) c.args.blocks.now

pub loop-block-preserved : goal.loop-block-preserved
loop-block-preserved c =
    let floor = to_z w64 (of_z w64 c.args.floor) in
    let now = to_z w64 (of_z w64 c.args.now) in
    best_next (λ s t. s ≤ℤ t) le_through (IsExpired floor now c.args.keep) c.args.blocks.now
    c.loop-block.block-index no_block c.loop-block.last c.expired_end.result
    c.loop-block-test.true c.loop-block.invariant c.expired_end.ensures.end
    c.expired_end.ensures.some c.expired_end.ensures.none c.later-last.result
    c.later-last.ensures.none c.later-last.ensures.either c.later-last.ensures.later

pub returns-clause-last : goal.returns-clause-last
returns-clause-last c =
    let floor = to_z w64 (of_z w64 c.args.floor) in
    let now = to_z w64 (of_z w64 c.args.now) in
    rw (← to_z-of_z w64 c.args.floor c.ranges.floor, ← to_z-of_z w64 c.args.now c.ranges.now)
    (last_is floor now c.args.keep c.args.blocks.now c.loop-block.block-index c.loop-block.last
    c.loop-block-test.false c.loop-block.invariant)

pub returns-clause-none : goal.returns-clause-none
returns-clause-none c =
    let floor = to_z w64 (of_z w64 c.args.floor) in
    let now = to_z w64 (of_z w64 c.args.now) in
    rw (← to_z-of_z w64 c.args.floor c.ranges.floor, ← to_z-of_z w64 c.args.now c.ranges.now)
    (none_expired floor now c.args.keep c.args.blocks.now c.loop-block.block-index
    c.loop-block.last c.loop-block-test.false c.loop-block.invariant)
