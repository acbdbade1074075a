use Rattle.std.proofs.Common.{◌+◌, ◌*◌, length}
use Rattle.answers.proofs.pieces.+runs.Given as goal

abbrev pub decreases-runs_of : goal.decreases-runs_of
decreases-runs_of g l = 2 * length l.rows.now

abbrev pub decreases-early : goal.decreases-early
decreases-early g l = 2 * length l.front.now + 1

abbrev pub decreases-late : goal.decreases-late
decreases-late g l = 2 * length l.back.now + 1
