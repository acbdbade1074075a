use Rattle.std.proofs.Common.{◌≡◌, map, take}
use Rattle.kept_walk.proofs.heads.folders_of.Given as goal

abbrev pub invariant-loop-place : goal.invariant-loop-place
invariant-loop-place l = l.folders.items ≡ map (λ p. p.0) (take l.place-index l.places)
