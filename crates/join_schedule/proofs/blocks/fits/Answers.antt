use Rattle.std.proofs.lemmas.Int.{to_z-of_z}
use mir.Syntax.{w64}
use Rattle.join_schedule.proofs.Sums.{decides_fits}
use Rattle.join_schedule.proofs.blocks.fits.Goals as goal

pub returns : goal.returns
returns c =
    rw (← to_z-of_z w64 c.args.floor c.ranges.floor)
    (decides_fits c.args.limits.now _ c.args.blocks.now c.joined_samples.result c.is_some.result
    c.is_some.ensures c.joined_samples.ensures.some c.joined_samples.ensures.none)
