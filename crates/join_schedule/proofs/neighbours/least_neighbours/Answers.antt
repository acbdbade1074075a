use Rattle.std.proofs.Common.{◌-◌, arith}
use Rattle.std.proofs.lemmas.Int.{to_z-of_z}
use mir.Syntax.{w64}
use mir.Val.{to_z, of_z}
use Rattle.join_schedule.proofs.Pairs.{IsPairAt, none_so_far, least_next, none_fits, least_is}
use Rattle.join_schedule.proofs.neighbours.least_neighbours.Goals as goal

pub loop-next-init : goal.loop-next-init
loop-next-init c = none_so_far c.args.limits.now (to_z w64 (of_z w64 c.args.floor)) c.args.blocks.now

pub loop-next-preserved : goal.loop-next-preserved
loop-next-preserved c =
    let limits = c.args.limits.now in
    let blocks = c.args.blocks.now in
    let next = c.loop-next.next in
    let floor = to_z w64 (of_z w64 c.args.floor) in
    let is : IsPairAt limits floor blocks (next - 1) c.fitting_pair.result =
    record {
      at_is = c.fitting_pair.ensures.at;
      samples_are = c.fitting_pair.ensures.samples;
      fits = c.fitting_pair.ensures.fits;
      none = c.fitting_pair.ensures.none;
    } in
    least_next limits floor blocks next (next - 1) c.loop-next.least c.fitting_pair.result
    (omega (arith, c.loop-next.auto.next)) (omega (arith, c.loop-next-test.true))
    c.loop-next.invariant is c.with_fewer-least.result c.with_fewer-least.ensures.none
    c.with_fewer-least.ensures.either c.with_fewer-least.ensures.fewer

pub returns-in_err-pair-clause-none : goal.returns-in_err-pair-clause-none
returns-in_err-pair-clause-none c =
    rw (c.from_residual.ensures, ← to_z-of_z w64 c.args.floor c.ranges.floor)
    (none_fits c.args.limits.now (to_z w64 (of_z w64 c.args.floor)) c.args.blocks.now c.loop-next.next c.loop-next.least
    c.in_err-pair.was c.loop-next-test.false c.loop-next.invariant)

pub returns-clause-some : goal.returns-clause-some
returns-clause-some c =
    rw (← to_z-of_z w64 c.args.floor c.ranges.floor)
    (least_is c.args.limits.now (to_z w64 (of_z w64 c.args.floor)) c.args.blocks.now
    c.loop-next.next c.loop-next.least c.in_ok-pair.pair c.in_ok-pair.was c.loop-next-test.false
    c.loop-next.invariant)
