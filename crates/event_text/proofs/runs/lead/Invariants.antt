use Rattle.std.proofs.Common.{◌≡◌, ◌+◌, ◌-◌, ◌≤◌, length, drop}
use Rattle.event_text.specs.Runs.{lead}
use Rattle.event_text.proofs.runs.lead.Given as goal

abbrev pub invariant-same : goal.invariant-same
invariant-same l = (l.at ≤ length l.samples)
    × (lead l.labels l.samples ≡ l.at + lead l.labels (drop l.at l.samples))

abbrev pub decreases-same : goal.decreases-same
decreases-same l = length l.samples - l.at
