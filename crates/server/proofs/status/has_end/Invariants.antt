use Rattle.std.proofs.Common.{length}
use Rattle.std.specs.Prelude.{◌↔◌}
use Rattle.server.specs.Status.{HasEnd}
use Rattle.server.proofs.status.has_end.Given as goal

abbrev pub invariant-tails : goal.invariant-tails
invariant-tails l = HasEnd l.left ↔ HasEnd l.head

abbrev pub decreases-tails : goal.decreases-tails
decreases-tails l = length l.left
