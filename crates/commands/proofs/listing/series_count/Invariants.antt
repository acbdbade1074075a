use Rattle.std.proofs.Common.{◌≡◌, ℤ, take}
use Rattle.std.specs.Prelude.{map}
use Rattle.labels.specs.Labels.{Labels}
use Rattle.commands.proofs.listing.series_count.Given as goal

-- the label sets so far
abbrev pub invariant-loop-sample : goal.invariant-loop-sample
invariant-loop-sample l =
    map (λ x. x.now) l.all.items ≡ map (λ (x : Labels × (ℤ × ℤ)). x.0) (take l.sample-index l.samples)
