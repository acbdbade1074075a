use Rattle.std.proofs.Common.{◌≡◌, ◌++◌, ℤ, drop, filter}
use Rattle.block.specs.Wanted.{wants}
use Rattle.block.proofs.samples.push_wanted.Given as goal

abbrev pub invariant-loop-i : goal.invariant-loop-i
invariant-loop-i l =
    l.found.items ++ filter (λ (s : ℤ × ℤ). wants l.wanted s.0) (drop l.i l.samples)
    ≡ l.fn.found.items ++ filter (λ (s : ℤ × ℤ). wants l.wanted s.0) l.samples
