use Rattle.std.proofs.Common.{◌≡◌, ◌++◌, ℤ, drop, filter}
use Rattle.packed_chunks.specs.Packed.{in_range}
use Rattle.packed_chunks.proofs.samples.PackedSamples.push_within.Given as goal

abbrev pub invariant-loop-i : goal.invariant-loop-i
invariant-loop-i l =
    l.found.items ++ filter (λ (s : ℤ × ℤ). in_range l.fn.from l.fn.to s.0) (drop l.i l.self)
    ≡ l.fn.found.items ++ filter (λ (s : ℤ × ℤ). in_range l.fn.from l.fn.to s.0) l.self
