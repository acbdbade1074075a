use Rattle.std.proofs.Common.{◌+◌, ◌*◌, length}
use Rattle.commands.proofs.opening.+halves.Given as goal

abbrev pub decreases-open_among : goal.decreases-open_among
decreases-open_among g l = 2 * length l.directories.now

abbrev pub decreases-early : goal.decreases-early
decreases-early g l = 2 * length l.front.now + 1

abbrev pub decreases-late : goal.decreases-late
decreases-late g l = 2 * length l.back.now + 1
