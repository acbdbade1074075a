use Rattle.std.proofs.Common.{◌+◌, ◌*◌}
use Rattle.block.proofs.packing.+halves.Given as goal

abbrev pub decreases-pack_among : goal.decreases-pack_among
decreases-pack_among g l = 2 * l.count

abbrev pub decreases-early : goal.decreases-early
decreases-early g l = 2 * l.low + 1

abbrev pub decreases-late : goal.decreases-late
decreases-late g l = 2 * l.high + 1
