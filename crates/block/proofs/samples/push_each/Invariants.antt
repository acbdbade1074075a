use Rattle.std.proofs.Common.{◌≡◌, ◌++◌, ℤ, drop, filter}
use Rattle.block.specs.Kept.{source_in}
use Rattle.block.specs.Samples.{samples_in}
use Rattle.block.specs.Wanted.{wants}
use Rattle.block.proofs.samples.push_each.Given as goal

abbrev pub invariant-loop-k : goal.invariant-loop-k
invariant-loop-k l =
    l.found.items
    ++ filter (λ (s : ℤ × ℤ). wants l.wanted s.0) (samples_in (source_in l.files) (drop l.k l.met))
    ≡ l.fn.found.items
    ++ filter (λ (s : ℤ × ℤ). wants l.wanted s.0) (samples_in (source_in l.files) l.met)
