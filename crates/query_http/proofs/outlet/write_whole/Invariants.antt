use Rattle.std.proofs.Common.{length, ◌-◌, ◌≡◌, ◌≤◌, take}
use Rattle.std.specs.Io.KnownBytes.{Appends}
use Rattle.query_http.proofs.outlet.write_whole.Given as goal

abbrev pub invariant-loop-done : goal.invariant-loop-done
invariant-loop-done g l =
    (l.done ≤ length l.text)
    × Appends (g.W.Outlet.output l.initial.writer) (g.W.Outlet.output l.writer) (take l.done l.text)
    × (g.W.Outlet.failed_writes l.writer ≡ g.W.Outlet.failed_writes l.initial.writer)

abbrev pub decreases-loop-done : goal.decreases-loop-done
decreases-loop-done g l = length l.text - l.done
