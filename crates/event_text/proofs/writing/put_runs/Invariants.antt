use Rattle.std.proofs.Common.{◌≡◌, ◌++◌, length}
use Rattle.std.specs.List.{flat_map, AllByRecursion}
use Rattle.wire.specs.Spelling.{uvarint}
use Rattle.event_text.specs.Runs.{runs_of}
use Rattle.event_text.specs.Spelling.{run_text, IsRun}
use Rattle.event_text.proofs.writing.put_runs.Given as goal

abbrev pub invariant-runs : goal.invariant-runs
invariant-runs l =
    (l.out.items ++ flat_map run_text (runs_of l.rest)
    ≡ l.fn.out.items ++ (uvarint (length (runs_of l.samples)) ++ flat_map run_text (runs_of l.samples)))
    × (AllByRecursion IsRun (runs_of l.rest) → AllByRecursion IsRun (runs_of l.samples))

abbrev pub decreases-runs : goal.decreases-runs
decreases-runs l = length l.rest
