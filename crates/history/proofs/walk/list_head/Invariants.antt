use Rattle.std.proofs.Common.{◌-◌, ◌+◌, length}
use Rattle.head.specs.Shown.{series_of}
use Rattle.history.proofs.Listing.{AreListed}
use Rattle.history.proofs.walk.list_head.Given as goal

abbrev pub invariant-loop-labels : goal.invariant-loop-labels
invariant-loop-labels l = AreListed l.query (series_of l.head) l.number l.part.items

abbrev pub decreases-loop-labels : goal.decreases-loop-labels
decreases-loop-labels l = length (series_of l.head) + 1 - l.number
