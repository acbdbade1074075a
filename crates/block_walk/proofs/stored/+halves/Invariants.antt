use Rattle.std.proofs.Common.{◌+◌, ◌*◌}
use Rattle.block_walk.proofs.stored.+halves.Given as goal

abbrev pub decreases-few_among : goal.decreases-few_among
decreases-few_among g l = 2 * l.count

abbrev pub decreases-front : goal.decreases-front
decreases-front g l = 2 * l.low + 1

abbrev pub decreases-back : goal.decreases-back
decreases-back g l = 2 * l.high + 1
