use Rattle.std.proofs.Common.{◌-◌, ◌<◌, ◌≤◌, ℕ, length}
use Rattle.std.specs.Prelude.{◌<ℤ◌, ◌≤ℤ◌}
use Rattle.packed_chunks.specs.Packed.{time_at}
use Rattle.packed_chunks.proofs.samples.PackedSamples.place_from.Given as goal

abbrev pub invariant-loop-low : goal.invariant-loop-low
invariant-loop-low l = record {
  order : l.low ≤ l.high;
  end : l.high ≤ length l.self;
  before : (k : ℕ) → k < l.low → time_at l.self k <ℤ l.time;
  from : (k : ℕ) → l.high ≤ k → k < length l.self → l.time ≤ℤ time_at l.self k;
}

abbrev pub decreases-loop-low : goal.decreases-loop-low
decreases-loop-low l = l.high - l.low
