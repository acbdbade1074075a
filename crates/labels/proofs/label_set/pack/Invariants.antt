use Rattle.std.proofs.Common.{◌≡◌, take}
use Rattle.labels.specs.Pairs.{pairs_of}
use Rattle.labels.proofs.label_set.pack.Given as goal

abbrev pub invariant-loop-pair : goal.invariant-loop-pair
invariant-loop-pair l = l.packed ≡ pairs_of (take l.pair-index l.pairs)
