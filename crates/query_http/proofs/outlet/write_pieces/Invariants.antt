use Rattle.std.proofs.Common.{◌≡◌, length}
use Rattle.answers.specs.Joined.{joined}
use Rattle.query_http.proofs.Written.{IsWrittenTo}
use Rattle.query_http.proofs.outlet.write_pieces.Given as goal

abbrev pub invariant-loop-first : goal.invariant-loop-first
invariant-loop-first g l =
    IsWrittenTo (g.W.Outlet.output l.fn.writer) (g.W.Outlet.output l.writer) (joined l.pieces)
    (joined l.rest)
    × (g.W.Outlet.failed_writes l.writer ≡ g.W.Outlet.failed_writes l.fn.writer)

abbrev pub decreases-loop-first : goal.decreases-loop-first
decreases-loop-first g l = length l.rest
