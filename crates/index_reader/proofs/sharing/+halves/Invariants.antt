use Rattle.std.proofs.Common.{◌+◌, ◌*◌}
use Rattle.index_reader.proofs.sharing.+halves.Given as goal

abbrev pub decreases-bodies_among : goal.decreases-bodies_among
decreases-bodies_among g l = 2 * l.threads

abbrev pub decreases-first : goal.decreases-first
decreases-first g l = 2 * l.helpers + 1

abbrev pub decreases-second : goal.decreases-second
decreases-second g l = 2 * l.rest + 1
