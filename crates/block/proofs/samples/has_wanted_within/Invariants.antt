use Rattle.std.proofs.Common.{◌≡◌, ℤ, drop}
use Rattle.std.specs.List.{list_any}
use Rattle.block.specs.Kept.{source_in}
use Rattle.block.specs.Samples.{samples_in}
use Rattle.block.specs.Wanted.{wants}
use Rattle.block.proofs.samples.has_wanted_within.Given as goal

abbrev pub invariant-loop-k : goal.invariant-loop-k
invariant-loop-k l =
    list_any (λ (s : ℤ × ℤ). wants l.wanted s.0)
    (samples_in (source_in l.files) (drop l.k l.chunks))
    ≡ list_any (λ (s : ℤ × ℤ). wants l.wanted s.0) (samples_in (source_in l.files) l.chunks)
