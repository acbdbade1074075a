use Rattle.std.proofs.Common.{◌≡◌, ◌-◌}
use Rattle.open_metrics.specs.declared.error.Reason.TheVariants.{Many}
use Rattle.open_metrics.specs.Labels.{next_at, pairs_in}
use Rattle.open_metrics.specs.Texts.{until_end}
use Rattle.open_metrics.proofs.Items.{with_front}
use Rattle.open_metrics.proofs.labels.cut_each.Given as goal

abbrev pub invariant-loop-counter : goal.invariant-loop-counter
invariant-loop-counter l =
    with_front (pairs_in l.labels.items) (until_end (next_at l.format) Many (l.count - l.counter) l.rest)
    ≡ until_end (next_at l.format) Many l.count l.bytes
