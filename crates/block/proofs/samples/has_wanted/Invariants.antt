use Rattle.std.proofs.Common.{◌≡◌, ℤ, drop}
use Rattle.std.specs.List.{list_any}
use Rattle.block.specs.Wanted.{wants}
use Rattle.block.proofs.samples.has_wanted.Given as goal

abbrev pub invariant-loop-i : goal.invariant-loop-i
invariant-loop-i l =
    list_any (λ (s : ℤ × ℤ). wants l.wanted s.0) (drop l.i l.samples)
    ≡ list_any (λ (s : ℤ × ℤ). wants l.wanted s.0) l.samples
