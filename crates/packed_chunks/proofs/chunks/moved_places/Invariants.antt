use Rattle.std.proofs.Common.{◌≡◌, map, take}
use Rattle.packed_chunks.specs.Chunks.{moved}
use Rattle.packed_chunks.proofs.chunks.moved_places.Given as goal

abbrev pub invariant-loop-i : goal.invariant-loop-i
invariant-loop-i l = l.further.items ≡ map (moved l.by) (take l.i l.places)
