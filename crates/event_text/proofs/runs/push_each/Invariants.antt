use Rattle.std.proofs.Common.{◌≡◌, ◌++◌, [], take}
use Rattle.event_text.specs.Runs.{before}
use Rattle.event_text.proofs.runs.push_each.Given as goal

abbrev pub invariant-loop-sample : goal.invariant-loop-sample
invariant-loop-sample l =
    l.out.items ≡ l.fn.out.items ++ before l.labels (take l.sample-index l.samples) []
