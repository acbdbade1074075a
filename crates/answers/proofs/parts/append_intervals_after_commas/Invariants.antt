use Rattle.std.proofs.Common.{◌≡◌, ◌++◌, drop}
use Rattle.answers.specs.Body.{interval_data}
use Rattle.answers.specs.AfterCommas.{after_commas}
use Rattle.answers.proofs.parts.append_intervals_after_commas.Given as goal

abbrev pub invariant-loop-interval : goal.invariant-loop-interval
invariant-loop-interval l =
    l.out.items ++ after_commas interval_data (drop l.interval-index l.intervals)
    ≡ l.fn.out.items ++ after_commas interval_data l.intervals
