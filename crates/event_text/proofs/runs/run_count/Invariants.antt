use Rattle.std.proofs.Common.{◌≡◌, ◌+◌, ◌≤◌, length}
use Rattle.event_text.specs.Runs.{runs_of}
use Rattle.event_text.proofs.runs.run_count.Given as goal

abbrev pub invariant-runs : goal.invariant-runs
invariant-runs l =
    (l.count + length (runs_of l.rest) ≡ length (runs_of l.samples))
    × (l.count + length l.rest ≤ length l.samples)

abbrev pub decreases-runs : goal.decreases-runs
decreases-runs l = length l.rest
