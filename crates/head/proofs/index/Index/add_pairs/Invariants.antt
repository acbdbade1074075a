use Rattle.std.proofs.Common.{◌≡◌, drop}
use Rattle.head.specs.Index.{listed_each}
use Rattle.head.proofs.index.Index.add_pairs.Given as goal

abbrev pub invariant-loop-place : goal.invariant-loop-place
invariant-loop-place l = listed_each (drop l.place l.labels) l.reference l.self ≡ listed_each l.labels l.reference l.fn.self
