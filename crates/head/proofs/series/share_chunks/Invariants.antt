use Rattle.std.specs.Prelude.{map}
use Rattle.std.specs.Arc.{arc_value}
use Rattle.std.proofs.Common.{◌≡◌, take}
use Rattle.head.proofs.series.share_chunks.Given as goal

abbrev pub invariant-loop-chunk : goal.invariant-loop-chunk
invariant-loop-chunk l = map (λ c. arc_value c) l.copy.items ≡ map (λ c. arc_value c) (take l.chunk-index l.chunks)
