use Rattle.std.proofs.Common.{◌+◌, ◌*◌}
use Rattle.block_walk.proofs.samples.+halves.Given as goal

abbrev pub decreases-rows_among : goal.decreases-rows_among
decreases-rows_among g l = 2 * l.count

abbrev pub decreases-front : goal.decreases-front
decreases-front g l = 2 * l.low + 1

abbrev pub decreases-back : goal.decreases-back
decreases-back g l = 2 * l.high + 1
